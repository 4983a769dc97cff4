-- `reader_render::piece::put_comma` meets its contract.
-- Assumes nothing.
use Rattle.std.proofs.Common.{rules}
use Rattle.reader_render.proofs.Copying.{comma_rules}
use Rattle.reader_render.proofs.piece.put_comma.Goals as goal

pub returns-else-i-gt0 : goal.returns-else-i-gt0
returns-else-i-gt0 c = search (comma_rules, rules)
