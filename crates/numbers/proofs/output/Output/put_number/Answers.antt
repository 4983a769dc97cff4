-- `numbers::output::Output::put_number` meets its contract: the width, then as many of the lowest bytes.
-- Assumes nothing.
use Rattle.std.proofs.Common.{rules}
use Rattle.numbers.proofs.Putting.{number_rules}
use Rattle.numbers.proofs.output.Output.put_number.Goals as goal

pub overflow_cast-w : goal.overflow_cast-w
overflow_cast-w c = search (number_rules, rules)

pub put-requires : goal.put-requires
put-requires c = search (number_rules, rules)

pub put_lowest-requires : goal.put_lowest-requires
put_lowest-requires c = search (number_rules, rules)

pub returns : goal.returns
returns c = search (number_rules, rules)
