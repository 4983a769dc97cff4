-- `hex_pair` meets its contract: two digits say a byte.
-- Assumes nothing.
use Rattle.std.proofs.Common.{rules}
use Rattle.bench_lines.proofs.Spelling.{pair_high, pair_low, pair_met}
use Rattle.bench_lines.proofs.digits.hex_pair.Goals as goal

pub returns-in_err-high : goal.returns-in_err-high
returns-in_err-high c = search (pair_high, rules)

pub returns-in_err-low : goal.returns-in_err-low
returns-in_err-low c = search (pair_low, rules)

pub returns : goal.returns
returns c = search (pair_met, rules)
