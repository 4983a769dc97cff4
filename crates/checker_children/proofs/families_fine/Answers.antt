-- `checker_children::families_fine` meets its contract: the children of every row are fine.
-- Assumes nothing.
use Rattle.std.proofs.Common.{rules}
use Rattle.paper.proofs.Tests.{passing}
use Rattle.checker_members.proofs.Members.{unmarked}
use Rattle.checker_children.proofs.families_fine.Goals as goal

pub invariant_of-rows : goal.invariant_of-rows
invariant_of-rows c = search (unmarked, rules)

pub loop-row-init : goal.loop-row-init
loop-row-init c = search (passing, rules)

pub returns-then-not-children_fine : goal.returns-then-not-children_fine
returns-then-not-children_fine c = rw (← c.loop-row.invariant.same_bytes) (search (passing, rules))

pub loop-row-preserved : goal.loop-row-preserved
loop-row-preserved c = record {
  same_bytes = search rules;
  same_rows = search rules;
  passing = search (passing, rules);
}
