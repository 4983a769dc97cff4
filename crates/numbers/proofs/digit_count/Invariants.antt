-- `numbers::digit_count` meets its contract. The loop keeps that the digits passed and those of what is left are all.
-- Assumes nothing.
use Rattle.numbers.proofs.Putting.{Counting}
use Rattle.numbers.proofs.digit_count.Given as goal

abbrev pub invariant-loop-x : goal.invariant-loop-x
invariant-loop-x g l = Counting g.row.TOP g.row.BASE l.n l.x l.k

abbrev pub decreases-loop-x : goal.decreases-loop-x
decreases-loop-x g l = l.x
