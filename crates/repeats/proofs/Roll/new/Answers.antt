-- `repeats::Roll::new` meets its contract: no bit is set.
-- Assumes nothing.
use Rattle.std.proofs.Common.{rules}
use Rattle.repeats.proofs.Bits.{bits_rules}
use Rattle.repeats.proofs.Roll.new.Goals as goal

pub returns : goal.returns
returns c = search (bits_rules, rules)
