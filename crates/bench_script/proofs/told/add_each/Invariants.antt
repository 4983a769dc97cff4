-- `add_each` meets its contract: the buffer keeps its length.
-- Assumes nothing.
use Rattle.std.proofs.Common.{◌≡◌, length}
use Rattle.bench_script.proofs.told.add_each.Given as goal

abbrev pub invariant-loop-n : goal.invariant-loop-n
invariant-loop-n g l = length l.to.out.now ≡ length l.initial.to.out.now
