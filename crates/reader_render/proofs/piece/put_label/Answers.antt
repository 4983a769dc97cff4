-- `reader_render::piece::put_label` meets its contract.
-- Assumes nothing.
use Rattle.std.proofs.Common.{rules}
use Rattle.reader_render.proofs.Copying.{label_rules}
use Rattle.reader_render.proofs.piece.put_label.Goals as goal

pub put-requires : goal.put-requires
put-requires c = search (label_rules, rules)

pub returns-in-Set : goal.returns-in-Set
returns-in-Set c = search (label_rules, rules)

pub returns-in_default : goal.returns-in_default
returns-in_default c = search (label_rules, rules)
