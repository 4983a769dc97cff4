-- `read_full` meets its contract. Each turn reads one byte at least into a buffer that ends, so that it ends.
-- Assumes nothing.
use Rattle.std.proofs.Common.{◌≡◌, ◌-◌, ◌≤◌, length}
use Rattle.bench_lines.proofs.lines.read_full.Given as goal

abbrev pub invariant-loop-have : goal.invariant-loop-have
invariant-loop-have g l = (l.have ≤ length l.s) × (length l.s ≡ length l.initial.s)

abbrev pub decreases-loop-have : goal.decreases-loop-have
decreases-loop-have g l = length l.initial.s - l.have
