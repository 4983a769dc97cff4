-- `writer_judge::measuring::+measure` meets its contract: each return and each turn of its loop; the nesting left falls.
-- Assumes nothing.
use Prim.Native.Nat.{◌-◌}
use lib.ListN.{length}
use Rattle.writer_judge.proofs.Gathers.{Gathering}
use Rattle.writer_judge.proofs.measuring.+measure.Given as goal

abbrev pub decreases-measure : goal.decreases-measure
decreases-measure l = l.room

abbrev pub invariant-loop-was : goal.invariant-loop-was
invariant-loop-was l = Gathering l.d l.s l.room l.row l.n l.p l.k l.initial.slots l.g l.first l.slots l.roll l.was

abbrev pub decreases-loop-was : goal.decreases-loop-was
decreases-loop-was l = length l.s - l.was.at
