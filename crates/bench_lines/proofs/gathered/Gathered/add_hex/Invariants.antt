-- `Gathered::add_hex` meets its contract: the buffer is the same one, and keeps its length.
-- Assumes nothing.
use Rattle.std.proofs.Common.{◌≡◌, length}
use Rattle.bench_lines.proofs.gathered.Gathered.add_hex.Given as goal

abbrev pub invariant-loop-x : goal.invariant-loop-x
invariant-loop-x g l = (l.self.out.ghost_name ≡ l.initial.self.out.ghost_name) × (length l.self.out.now ≡ length l.initial.self.out.now)
