-- `checker_members::Rows::unlike_elders` meets its contract: a name that no elder sibling has.
-- Assumes nothing.
use Rattle.std.proofs.Common.{rules, tests}
use Rattle.paper.proofs.Chains.{all_below}
use Rattle.dictionary.specs.Accepts.{differs}
use Rattle.checker_members.proofs.Members.{differs_by, elder-none, elders_all}
use Rattle.checker_members.proofs.Rows.unlike_elders.Goals as goal

pub returns-then-not-is_empty : goal.returns-then-not-is_empty
returns-then-not-is_empty c =
    let a = c.args in
    let all_differ = all_below (differs a.self.now.d.now a.first a.p) a.p (cc) c.all.ensures.ran (λ x b q k. search (rules, tests, differs_by)) in
    search (elders_all, all_differ, rules)

pub returns-else-not-is_empty : goal.returns-else-not-is_empty
returns-else-not-is_empty c = search (elder-none, rules)
