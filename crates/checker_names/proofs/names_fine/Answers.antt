-- `checker_names::names_fine` meets its contract: every row's name is fine.
-- Assumes nothing.
use Rattle.std.proofs.Common.{rules, tests}
use Rattle.paper.proofs.Chains.{all_below}
use Rattle.dictionary.specs.Accepts.{name_fine}
use Rattle.checker_names.proofs.names_fine.Goals as goal

pub returns : goal.returns
returns c = all_below (name_fine c.args.d.now) c.args.n (cc) c.all.ensures.ran (λ x b q k. search (rules, tests))
