-- `numbers::little_at` meets its contract. The loop keeps that what is summed is what the bytes from `i` on say.
-- Assumes nothing.
use Rattle.std.proofs.Common.{rules}
use Rattle.numbers.proofs.Reading.{sum_rules}
use Rattle.numbers.proofs.little_at.Goals as goal

pub loop-i-init : goal.loop-i-init
loop-i-init c = search (sum_rules, rules)

pub overflow_mul-n : goal.overflow_mul-n
overflow_mul-n c = search (sum_rules, rules)

pub overflow_add-n : goal.overflow_add-n
overflow_add-n c = search (sum_rules, rules)

pub loop-i-preserved : goal.loop-i-preserved
loop-i-preserved c = search (sum_rules, rules)
