-- `dictionary::children::child_named` meets its contract: the first child with the name.
-- Where a length differs the goal doesn't show the name that was read, so its lemma is given by hand, its premises by `search`.
-- Assumes nothing.
use Prim.Native.Nat.{◌-◌}
use lib.ListN.{length}
use Rattle.dictionary.proofs.Asking.{Looking, Comparing}
use Rattle.dictionary.proofs.children.child_named.Given as goal

abbrev pub invariant-loop-i : goal.invariant-loop-i
invariant-loop-i l = Comparing l.d l.row l.text l.end l.initial.child l.own l.child l.i

abbrev pub decreases-loop-i : goal.decreases-loop-i
decreases-loop-i l = length l.text - l.i

abbrev pub invariant-siblings : goal.invariant-siblings
invariant-siblings l = Looking l.d l.row l.text l.end l.child

abbrev pub decreases-siblings : goal.decreases-siblings
decreases-siblings l = l.end - l.child
