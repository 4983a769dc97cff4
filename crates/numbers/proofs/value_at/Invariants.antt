-- `numbers::value_at` meets its contract. The loop keeps that the digits passed and those left say the whole, up to the cap.
-- Assumes nothing.
use Prim.Native.Nat.{◌+◌}
use Rattle.numbers.proofs.Texts.{Valuing}
use Rattle.numbers.proofs.value_at.Given as goal

abbrev pub invariant-loop-c : goal.invariant-loop-c
invariant-loop-c l = Valuing l.s l.at l.end l.n (l.at + l.c-index)
