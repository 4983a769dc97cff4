-- `writer_render::tuples::put_leaf` meets its contract: its front, then V.
-- Assumes nothing.
use Rattle.std.proofs.Common.{rules}
use Rattle.writer_render.proofs.Puts.{leaves}
use Rattle.writer_render.proofs.tuples.put_leaf.Goals as goal

pub put_front-requires-clause-has_room : goal.put_front-requires-clause-has_room
put_front-requires-clause-has_room c = search (leaves, rules)

pub put_body-requires-clause-has_room : goal.put_body-requires-clause-has_room
put_body-requires-clause-has_room c = search (leaves, rules)

pub returns : goal.returns
returns c = search (leaves, rules)
