-- `writer_render::tuples::put_body` meets its contract: each kind of value.
-- Assumes nothing.
use Rattle.std.proofs.Common.{rules}
use Rattle.writer_render.proofs.Puts.{bodies}
use Rattle.writer_render.proofs.tuples.put_body.Goals as goal

pub returns-in-Null : goal.returns-in-Null
returns-in-Null c = search (bodies, rules)

pub returns-in-String : goal.returns-in-String
returns-in-String c = search (bodies, rules)

pub put-requires-in-String : goal.put-requires-in-String
put-requires-in-String c = search (bodies, rules)
