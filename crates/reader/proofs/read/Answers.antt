-- `reader::read` meets its contract: all is judged, then the text is written where it has room.
-- Assumes nothing.
use Rattle.std.proofs.Common.{arith}
use Rattle.std.proofs.lemmas.Result.{err_from_is_err_and}
use Rattle.reader.proofs.Entering.{read_denied, read_tight, read-accepted, read-room, read-good}
use Rattle.reader.proofs.read.Goals as goal

pub returns-in_err-done : goal.returns-in_err-done
returns-in_err-done c =
    let p = err_from_is_err_and c.from_residual.result c.from_residual.ensures.1 in
    rw (p.1, p.2) (read_denied _ _ _ _ _ c.in_err-done.ensures)

pub returns-then-out-done : goal.returns-then-out-done
returns-then-out-done c = rw (c.at.ensures.refusal, c.at.ensures.place) (read_tight _ _ _ _ _ c.in_ok-done.ensures c.then-out-done.either)

pub render_payload-requires-clause-accepted : goal.render_payload-requires-clause-accepted
render_payload-requires-clause-accepted c = read-accepted _ _ _ c.args.out.now _ c.in_ok-done.ensures

pub render_payload-requires-clause-has_room : goal.render_payload-requires-clause-has_room
render_payload-requires-clause-has_room c = read-room _ _ _ _ _ c.in_ok-done.ensures (omega arith) c.type_inv.s

pub returns : goal.returns
returns c = read-good _ _ _ _ _ c.in_ok-done.ensures (omega arith) c.type_inv.s (omega arith) c.render_payload.ensures
