-- `Lines::find_end` ends: each turn reads one byte at least into a buffer that ends.
-- Assumes nothing.
use Rattle.std.proofs.Common.{◌≡◌, ◌-◌, length}
use Rattle.bench_lines.proofs.lines.Lines.find_end.Given as goal

abbrev pub invariant-loop-self : goal.invariant-loop-self
invariant-loop-self g l = length l.self.buf.now ≡ length l.initial.self.buf.now

abbrev pub decreases-loop-self : goal.decreases-loop-self
decreases-loop-self g l = length l.initial.self.buf.now - l.self.have
