-- `numbers::digit_count` meets its contract. The loop keeps that the digits passed and those of what is left are all.
-- Assumes nothing.
use Rattle.std.proofs.Common.{rules}
use Rattle.numbers.proofs.Putting.{count_rules}
use Rattle.numbers.proofs.digit_count.Goals as goal

pub overflow_add-k : goal.overflow_add-k
overflow_add-k g c = search (count_rules, rules)

pub loop-x-preserved : goal.loop-x-preserved
loop-x-preserved g c = search (count_rules, rules)

pub returns : goal.returns
returns g c = search (count_rules, rules)
