-- `numbers::output::Output::put_lowest` meets its contract. The loop keeps that what is not yet written are the lowest bytes of what is left.
-- Assumes nothing.
use Rattle.std.proofs.Common.{rules}
use Rattle.numbers.proofs.Putting.{low_rules}
use Rattle.numbers.proofs.output.Output.put_lowest.Goals as goal

pub loop-init : goal.loop-init
loop-init c = search (low_rules, rules)

pub put-requires : goal.put-requires
put-requires c = search (low_rules, rules)

pub loop-preserved : goal.loop-preserved
loop-preserved c = search (low_rules, rules)

pub returns : goal.returns
returns c = search (low_rules, rules)
