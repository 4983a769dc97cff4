-- `desk_bytes::encode` meets its contract. The loop keeps that the records before this one are written.
-- Assumes nothing.
use Rattle.desk_bytes.proofs.Encoding.{Encoding}
use Rattle.desk_bytes.proofs.encode.Given as goal

abbrev pub invariant-loop-r : goal.invariant-loop-r
invariant-loop-r l = Encoding l.fn.d l.initial.o l.r-index l.o
