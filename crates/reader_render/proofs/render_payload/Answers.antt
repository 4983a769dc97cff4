-- `reader_render::render_payload` meets its contract: the root is a tuple like any other.
-- Assumes nothing.
use Rattle.std.proofs.Common.{length, ap, arith, rules}
use Rattle.numbers.proofs.Adding.{given_back, renamed}
use Rattle.reader_render.proofs.Payloads.{root-framed, root-within, root-accepted, root-text}
use Rattle.reader_render.proofs.render_payload.Goals as goal

pub at-t-requires : goal.at-t-requires
at-t-requires c = root-framed c.type_inv.s c.requires.accepted

pub slice_bounds-render-end : goal.slice_bounds-render-end
slice_bounds-render-end c = search (root-within c.type_inv.s c.requires.accepted c.at-t.ensures, rules)

pub render-requires-clause-accepted : goal.render-requires-clause-accepted
render-requires-clause-accepted c = root-accepted c.type_inv.s c.requires.accepted c.at-t.ensures

pub render-requires-clause-has_room : goal.render-requires-clause-has_room
render-requires-clause-has_room c = omega (arith, ap length (root-text c.type_inv.s c.requires.accepted c.at-t.ensures))

pub returns : goal.returns
returns c = given_back (renamed (root-text c.type_inv.s c.requires.accepted c.at-t.ensures) c.render.ensures) (search rules)
