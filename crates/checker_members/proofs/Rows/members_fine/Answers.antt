-- `checker_members::Rows::members_fine` meets its contract: all children sit well, those settled before included.
-- Assumes nothing.
use Rattle.std.proofs.Common.{rules}
use Rattle.paper.proofs.Tests.{passing}
use Rattle.checker_members.proofs.Members.{marks-more}
use Rattle.checker_members.proofs.Rows.members_fine.Goals as goal

pub returns-then-not-sits_well-clause-answer : goal.returns-then-not-sits_well-clause-answer
returns-then-not-sits_well-clause-answer c = rw (← c.loop-p.invariant.same_bytes) (search (passing, rules))

pub invariant_of-self : goal.invariant_of-self
invariant_of-self c = search (marks-more, rules)

pub loop-p-preserved : goal.loop-p-preserved
loop-p-preserved c = record {
  same_bytes = search rules;
  same_rows = search rules;
  passing = search (passing, rules);
}
