-- `reader_render::group::put_value` and `render`, which call each other, meet their contracts: a tuple's value is shorter than the value that holds it.
-- Assumes nothing.
use Rattle.std.proofs.Common.{◌≡◌, ◌<◌, ◌∙◌, length, rules, arith, ap, sym, Some}
use Rattle.numbers.proofs.Adding.{renamed}
use Rattle.dictionary.specs.Formats.{form_number, form_named}
use Rattle.payload.specs.Text.{opens, closes}
use Rattle.reader_render.proofs.Wording.{group-low, group-worth, null-worth, integer-text, option-worth, string-worth, boolean-worth}
use Rattle.reader_render.proofs.Printing.{opening-room, print_start, member-framed, part-within, part-named, member-row, lead-room, value-worth, value-room, value-falls, print_again, closing-room, print_done, bracket}
use Rattle.reader_render.proofs.group.+value.Goals as goal

pub put_value-render-requires : goal.put_value-render-requires
put_value-render-requires t c =
    let l : form_number c.args.format < 2 = group-low c.in-Set.is in
    let (a, e) = group-worth c.args.format c.requires.worth l in
    (search rules, (a, omega (arith, ap length e)))

pub put_value-put_bytes-requires : goal.put_value-put_bytes-requires
put_value-put_bytes-requires t c = omega (arith, ap length (null-worth c.args.format c.requires.worth c.in-Null.is))

pub put_value-put_decimal-requires : goal.put_value-put_decimal-requires
put_value-put_decimal-requires t c =
    let m = c.integer_at.ensures in
    record { held = m.held; has_room = omega (arith, ap length (integer-text c.args.format c.requires.worth c.in-Integer.is c.integer_at.result m)) }

pub put_value-put_option-requires-clause-optional : goal.put_value-put_option-requires-clause-optional
put_value-put_option-requires-clause-optional t c = (option-worth c.args.format c.requires.worth c.in-Enum.is).optional

pub put_value-put_option-requires-clause-has_room : goal.put_value-put_option-requires-clause-has_room
put_value-put_option-requires-clause-has_room t c = omega (arith, ap length (option-worth c.args.format c.requires.worth c.in-Enum.is).text)

pub put_value-put_quoted-requires : goal.put_value-put_quoted-requires
put_value-put_quoted-requires t c = omega (arith, ap length (string-worth c.args.format c.requires.worth c.in-String.is).text)

pub put_value-put_boolean-requires : goal.put_value-put_boolean-requires
put_value-put_boolean-requires t c = omega (arith, ap length (boolean-worth c.args.format c.requires.worth c.in-Boolean.is).text)

pub put_value-returns-in-Set : goal.put_value-returns-in-Set
put_value-returns-in-Set t c = renamed (group-worth c.args.format c.requires.worth (group-low c.in-Set.is)).1 c.render.ensures

pub put_value-returns-in-Null : goal.put_value-returns-in-Null
put_value-returns-in-Null t c = renamed (null-worth c.args.format c.requires.worth c.in-Null.is) c.put_bytes.ensures

pub put_value-returns-in-Integer : goal.put_value-returns-in-Integer
put_value-returns-in-Integer t c = renamed (integer-text c.args.format c.requires.worth c.in-Integer.is c.integer_at.result c.integer_at.ensures) c.put_decimal.ensures

pub put_value-returns-in-Enum : goal.put_value-returns-in-Enum
put_value-returns-in-Enum t c = renamed (option-worth c.args.format c.requires.worth c.in-Enum.is).text c.put_option.ensures

pub put_value-returns-in-String : goal.put_value-returns-in-String
put_value-returns-in-String t c = renamed (string-worth c.args.format c.requires.worth c.in-String.is).text c.put_quoted.ensures

pub put_value-returns-in-Boolean : goal.put_value-returns-in-Boolean
put_value-returns-in-Boolean t c = renamed (boolean-worth c.args.format c.requires.worth c.in-Boolean.is).text c.put_boolean.ensures

pub render-put-requires : goal.render-put-requires
render-put-requires t c = opening-room c.requires.accepted c.args.out.now c.requires.has_room

pub render-loop-i-init : goal.render-loop-i-init
render-loop-i-init t c =
    print_start c.requires.accepted c.args.out.now c.requires.has_room (bracket c.put.ensures (c.opens.ensures ∙ ap opens c.shape_at-shape.ensures)) c.number_value-i-end.ensures c.past_number-p.ensures

pub render-at-t-requires : goal.render-at-t-requires
render-at-t-requires t c = member-framed c.loop-i.invariant c.loop-i-test.true

pub render-put_lead-requires-clause-row : goal.render-put_lead-requires-clause-row
render-put_lead-requires-clause-row t c = member-row c.loop-i.invariant c.loop-i-test.true c.at-t.ensures c.child_of-child.ensures

pub render-put_lead-requires-clause-has_room : goal.render-put_lead-requires-clause-has_room
render-put_lead-requires-clause-has_room t c = lead-room c.loop-i.invariant c.loop-i-test.true c.at-t.ensures c.child_of-child.ensures c.shape_at-shape.ensures

pub render-unwrap-requires : goal.render-unwrap-requires
render-unwrap-requires t c = part-named c.loop-i.invariant c.loop-i-test.true c.at-t.ensures c.numbered.result c.numbered.ensures

pub render-slice_bounds-put_value-end : goal.render-slice_bounds-put_value-end
render-slice_bounds-put_value-end t c = search (part-within c.loop-i.invariant c.loop-i-test.true c.at-t.ensures, rules)

pub render-put_value-requires : goal.render-put_value-requires
render-put_value-requires t c =
    let k = c.loop-i.invariant in
    let h = c.loop-i-test.true in
    let m = c.at-t.ensures in
    let e = c.child_of-child.ensures in
    let g = c.shape_at-shape.ensures in
    let u = c.put_lead.ensures in
    let f : form_named c.at-t.result.form ≡ Some c.unwrap.result = sym c.numbered.ensures ∙ c.unwrap.ensures in
    (search (value-falls k h m e g u f, rules), (value-worth k h m e g u f, value-room k h m e g u f))

pub render-loop-i-preserved : goal.render-loop-i-preserved
render-loop-i-preserved t c =
    print_again c.loop-i.invariant c.loop-i-test.true c.at-t.ensures c.child_of-child.ensures c.shape_at-shape.ensures c.put_lead.ensures (sym c.numbered.ensures ∙ c.unwrap.ensures) c.put_value.ensures

pub render-put-requires-2 : goal.render-put-requires-2
render-put-requires-2 t c = closing-room c.loop-i.invariant c.loop-i-test.false

pub render-returns : goal.render-returns
render-returns t c =
    print_done c.loop-i.invariant c.loop-i-test.false (bracket c.put.ensures (c.opens.ensures ∙ ap opens c.shape_at-shape.ensures)) (bracket c.put-2.ensures (c.closes.ensures ∙ ap closes c.shape_at-shape.ensures))
