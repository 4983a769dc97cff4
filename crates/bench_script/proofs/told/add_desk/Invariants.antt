-- `add_desk` meets its contract: the buffer keeps its length.
-- Assumes nothing.
use Rattle.std.proofs.Common.{◌≡◌, length}
use Rattle.bench_script.proofs.told.add_desk.Given as goal

abbrev pub invariant-loop-r : goal.invariant-loop-r
invariant-loop-r g l = length l.to.out.now ≡ length l.initial.to.out.now
