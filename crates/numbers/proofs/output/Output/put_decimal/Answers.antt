-- `numbers::output::Output::put_decimal` meets its contract, by the sign.
-- Assumes nothing.
use Rattle.std.proofs.Common.{rules}
use Rattle.numbers.proofs.Texts.{text_rules}
use Rattle.numbers.proofs.output.Output.put_decimal.Goals as goal

pub put_digits-requires : goal.put_digits-requires
put_digits-requires c = search (text_rules, rules)

pub put-requires : goal.put-requires
put-requires c = search (text_rules, rules)

pub put_digits-requires-in-Minus : goal.put_digits-requires-in-Minus
put_digits-requires-in-Minus c = search (text_rules, rules)

pub returns-in-Plus : goal.returns-in-Plus
returns-in-Plus c = search (text_rules, rules)

pub returns-in-Minus : goal.returns-in-Minus
returns-in-Minus c = search (text_rules, rules)
