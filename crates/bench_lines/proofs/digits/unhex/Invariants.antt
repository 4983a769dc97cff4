-- `unhex` meets its contract. The loop keeps that the bytes put in front and those that are left make the whole.
-- Assumes nothing.
use Rattle.bench_lines.proofs.Spelling.{Unhexing}
use Rattle.bench_lines.proofs.digits.unhex.Given as goal

abbrev pub invariant-loop-i : goal.invariant-loop-i
invariant-loop-i l = Unhexing l.s l.initial.out l.n l.i l.out
