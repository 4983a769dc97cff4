-- `numbers::value_at` meets its contract. The loop keeps that the digits passed and those left say the whole, up to the cap.
-- Assumes nothing.
use Rattle.std.proofs.Common.{rules}
use Rattle.numbers.proofs.Texts.{value_rules}
use Rattle.numbers.proofs.value_at.Goals as goal

pub next_value-n-requires : goal.next_value-n-requires
next_value-n-requires c = search (value_rules, rules)

pub loop-c-preserved : goal.loop-c-preserved
loop-c-preserved c = search (value_rules, rules)

pub returns : goal.returns
returns c = search (value_rules, rules)
