-- `writer::written` meets its contract: all is judged and measured, then the payload is written where it has room.
-- Assumes nothing.
use Rattle.std.proofs.Common.{rules}
use Rattle.numbers.proofs.Adding.{given_back}
use Rattle.writer.proofs.Entering.{writings, written-whole, written-good}
use Rattle.writer.proofs.written.Goals as goal

pub returns-then-over : goal.returns-then-over
returns-then-over c = search (writings, c.in_ok-root.ensures, rules)

pub render-requires : goal.render-requires
render-requires c = search (writings, c.in_ok-root.ensures, c.put_header.ensures, rules)

pub returns : goal.returns
returns c =
    let d = c.args.d.now in
    let s = c.args.s.now in
    written-good d s c.args.out.now _ _ c.in_ok-root.root c.in_ok-root.ensures _ c.over.ensures c.if-over.false _ _
    (given_back (written-whole d s c.args.out.now _ _ c.in_ok-root.root c.in_ok-root.ensures _ c.over.ensures c.if-over.false _ _ c.put_header.ensures _ _ c.render.ensures) (search rules))
