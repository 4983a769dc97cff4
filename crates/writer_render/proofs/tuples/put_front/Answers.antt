-- `writer_render::tuples::put_front` meets its contract: S, F and L, one after the other.
-- Assumes nothing.
use Rattle.std.proofs.Common.{rules}
use Rattle.writer_render.proofs.Puts.{fronts}
use Rattle.writer_render.proofs.tuples.put_front.Goals as goal

pub put_number-requires : goal.put_number-requires
put_number-requires c = search (fronts, rules)

pub put-requires : goal.put-requires
put-requires c = search (fronts, rules)

pub put_number-requires-2 : goal.put_number-requires-2
put_number-requires-2 c = search (fronts, rules)

pub returns : goal.returns
returns c = search (fronts, rules)
