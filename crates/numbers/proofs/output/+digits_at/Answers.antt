-- `numbers::output::digits_at`, which calls itself on a tenth of its number, meets its contract.
-- Assumes nothing.
use Rattle.std.proofs.Common.{rules}
use Rattle.numbers.proofs.Texts.{digit_rules}
use Rattle.numbers.proofs.output.+digits_at.Goals as goal

pub digit_at-requires : goal.digit_at-requires
digit_at-requires t c = search (digit_rules, rules)

pub digits_at-next-requires : goal.digits_at-next-requires
digits_at-next-requires t c = search (digit_rules, rules)

pub digit_at-requires-else-n-lt10 : goal.digit_at-requires-else-n-lt10
digit_at-requires-else-n-lt10 t c = search (digit_rules, rules)

pub returns-then-n-lt10 : goal.returns-then-n-lt10
returns-then-n-lt10 t c = search (digit_rules, rules)

pub returns-else-n-lt10 : goal.returns-else-n-lt10
returns-else-n-lt10 t c = search (digit_rules, rules)
