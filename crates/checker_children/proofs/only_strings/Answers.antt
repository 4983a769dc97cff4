-- `checker_children::only_strings` meets its contract: every child's format is string.
-- Assumes nothing.
use Rattle.std.proofs.Common.{rules, tests}
use Rattle.paper.proofs.Chains.{all_below}
use Rattle.dictionary.specs.Accepts.{string_child}
use Rattle.checker_children.proofs.only_strings.Goals as goal

pub returns : goal.returns
unfolding string_child
returns c =
    let a = c.args in
    all_below (string_child a.rows.now.d.now a.first) a.count (cc) c.all.ensures.ran (λ x b q k. search (rules, tests))
