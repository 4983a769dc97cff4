-- `repeats::Roll::give` meets its contract: the bit of a row is set, and no other.
-- Assumes nothing.
use Rattle.std.proofs.Common.{rules}
use Rattle.repeats.proofs.Bits.{bits_rules}
use Rattle.repeats.proofs.Roll.give.Goals as goal

pub returns : goal.returns
returns c = search (bits_rules, rules)
