-- `number` meets its contract. The loop keeps that the digits passed and those left say the whole, and what is passed is at most `most`, so that no product wraps.
-- Assumes nothing.
use Rattle.bench_lines.proofs.Spelling.{Counting}
use Rattle.bench_lines.proofs.digits.number.Given as goal

abbrev pub invariant-loop-c : goal.invariant-loop-c
invariant-loop-c l = Counting l.s l.most l.n l.c-index
