-- `reader_render::piece::put_lead` meets its contract.
-- Assumes nothing.
use Rattle.std.proofs.Common.{rules}
use Rattle.reader_render.proofs.Copying.{lead_rules}
use Rattle.reader_render.proofs.piece.put_lead.Goals as goal

pub put_label-requires-clause-has_room : goal.put_label-requires-clause-has_room
put_label-requires-clause-has_room c = search (lead_rules, rules)

pub returns : goal.returns
returns c = search (lead_rules, rules)
