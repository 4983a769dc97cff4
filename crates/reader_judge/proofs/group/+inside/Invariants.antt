-- `reader_judge::group::inside` meets its contract: the value of a set or array, itself called on each inner one with one level less.
-- Assumes nothing.
use Rattle.reader_judge.proofs.Insides.{Loop}
use Prim.Native.Nat.{◌-◌}
use Rattle.reader_judge.proofs.group.+inside.Given as goal

abbrev pub decreases-inside : goal.decreases-inside
decreases-inside l = l.room

abbrev pub invariant-loop-i : goal.invariant-loop-i
invariant-loop-i l = Loop l.d l.s (l.room - 1) l.row l.value.to l.i-end l.initial.pos l.initial.left l.roll l.pos l.left l.long l.i
