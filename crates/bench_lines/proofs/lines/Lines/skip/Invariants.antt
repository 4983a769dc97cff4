-- `Lines::skip` meets its contract: the buffer keeps its length.
-- Assumes nothing.
use Rattle.std.proofs.Common.{◌≡◌, length}
use Rattle.bench_lines.proofs.lines.Lines.skip.Given as goal

abbrev pub invariant-loop : goal.invariant-loop
invariant-loop g l = length l.self.buf.now ≡ length l.initial.self.buf.now
