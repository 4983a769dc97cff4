-- `writer_render::tuples::put_opening` meets its contract: the front and the count.
-- Assumes nothing.
use Rattle.std.proofs.Common.{rules}
use Rattle.writer_render.proofs.Puts.{openings}
use Rattle.writer_render.proofs.tuples.put_opening.Goals as goal

pub put_front-requires-clause-has_room : goal.put_front-requires-clause-has_room
put_front-requires-clause-has_room c = search (openings, rules)

pub put_number-requires : goal.put_number-requires
put_number-requires c = search (openings, rules)

pub returns : goal.returns
returns c = search (openings, rules)
