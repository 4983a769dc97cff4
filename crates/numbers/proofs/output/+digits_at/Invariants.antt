-- `numbers::output::digits_at`, which calls itself on a tenth of its number, meets its contract.
-- Assumes nothing.
use Rattle.numbers.proofs.output.+digits_at.Given as goal

abbrev pub decreases-digits_at : goal.decreases-digits_at
decreases-digits_at l = l.n
