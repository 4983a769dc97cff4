-- `numbers::decimal_length` meets its contract, by the sign.
-- Assumes nothing.
use Rattle.std.proofs.Common.{rules}
use Rattle.numbers.proofs.Texts.{text_rules}
use Rattle.numbers.proofs.decimal_length.Goals as goal

pub overflow_add-result : goal.overflow_add-result
overflow_add-result c = search (text_rules, rules)

pub returns-in-Plus : goal.returns-in-Plus
returns-in-Plus c = search (text_rules, rules)

pub returns-in-Minus : goal.returns-in-Minus
returns-in-Minus c = search (text_rules, rules)
