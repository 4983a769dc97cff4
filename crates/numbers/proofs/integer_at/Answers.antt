-- `numbers::integer_at` meets its contract, by the sign that the highest byte shows.
-- Assumes nothing.
use Rattle.std.proofs.Common.{rules}
use Rattle.numbers.proofs.Reading.{integer_rules}
use Rattle.numbers.proofs.integer_at.Goals as goal

pub returns-then-s-end-lt128 : goal.returns-then-s-end-lt128
returns-then-s-end-lt128 c = search (integer_rules, rules)

pub returns-else-s-end-lt128 : goal.returns-else-s-end-lt128
returns-else-s-end-lt128 c = search (integer_rules, rules)
