-- `squeeze` meets its contract: no more bytes are kept than were read.
-- Assumes nothing.
use Rattle.std.proofs.Common.{◌≡◌, ◌≤◌, length}
use Rattle.judges.proofs.squeeze.Given as goal

abbrev pub invariant-loop-i : goal.invariant-loop-i
invariant-loop-i l = (l.n ≤ l.i) × (length l.s ≡ length l.initial.s)
