-- `reader_render::piece::put_quoted` meets its contract.
-- Assumes nothing.
use Rattle.std.proofs.Common.{rules}
use Rattle.reader_render.proofs.Copying.{quote_rules}
use Rattle.reader_render.proofs.piece.put_quoted.Goals as goal

pub put_bytes-requires : goal.put_bytes-requires
put_bytes-requires c = search (quote_rules, rules)

pub put-requires-2 : goal.put-requires-2
put-requires-2 c = search (quote_rules, rules)

pub returns : goal.returns
returns c = search (quote_rules, rules)
