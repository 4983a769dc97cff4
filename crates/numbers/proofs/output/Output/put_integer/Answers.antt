-- `numbers::output::Output::put_integer` meets its contract: complemented bytes are the bytes of the complement.
-- Assumes nothing.
use Rattle.std.proofs.Common.{rules}
use Rattle.numbers.proofs.Putting.{brief_rules}
use Rattle.numbers.proofs.output.Output.put_integer.Goals as goal

pub put_lowest-requires : goal.put_lowest-requires
put_lowest-requires c = search (brief_rules, rules)

pub put_lowest-requires-in-Minus : goal.put_lowest-requires-in-Minus
put_lowest-requires-in-Minus c = search (brief_rules, rules)

pub returns-in-Plus : goal.returns-in-Plus
returns-in-Plus c = search (brief_rules, rules)

pub returns-in-Minus : goal.returns-in-Minus
returns-in-Minus c = search (brief_rules, rules)
