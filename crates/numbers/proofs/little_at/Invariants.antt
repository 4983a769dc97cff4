-- `numbers::little_at` meets its contract. The loop keeps that what is summed is what the bytes from `i` on say.
-- Assumes nothing.
use Rattle.numbers.proofs.Reading.{Summing}
use Rattle.numbers.proofs.little_at.Given as goal

abbrev pub invariant-loop-i : goal.invariant-loop-i
invariant-loop-i l = Summing l.s l.at l.end l.minus l.i l.n
