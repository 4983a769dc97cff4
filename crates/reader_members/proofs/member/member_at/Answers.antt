-- `reader_members::member::member_at` meets its contract: number, child, body and what stands before it.
-- Assumes nothing.
use Rattle.std.proofs.lemmas.Result.{err_from_is_err_and}
use Rattle.reader_members.proofs.Membering.{member-sequence, member_seat, member-body, member-good}
use Rattle.reader_members.proofs.member.member_at.Goals as goal

pub returns-in_err-sequence : goal.returns-in_err-sequence
returns-in_err-sequence c =
    let p = err_from_is_err_and c.from_residual.result c.from_residual.ensures.1 in
    rw (p.1, p.2) (member-sequence _ _ _ _ _ _ _ _ c.in_err-sequence.ensures)

pub returns-in_err-child : goal.returns-in_err-child
returns-in_err-child c =
    let p = err_from_is_err_and c.from_residual-in_err-child.result c.from_residual-in_err-child.ensures.1 in
    rw (p.1, p.2) (member_seat _ _ _ _ _ _ _ _ _ _ c.in_ok-sequence.ensures _ c.in_err-child.ensures)

pub returns-in_err-body : goal.returns-in_err-body
returns-in_err-body c =
    let p = err_from_is_err_and c.from_residual-in_err-body.result c.from_residual-in_err-body.ensures.1 in
    rw (p.1, p.2) (member-body _ _ _ _ _ _ _ _ _ _ c.in_ok-sequence.ensures _ _ c.in_ok-child.ensures c.in_err-body.ensures)

pub returns : goal.returns
returns c =
    member-good _ _ _ _ _ _ _ _ _ _ c.in_ok-sequence.ensures _ _ c.in_ok-child.ensures _ c.front_long.ensures _ c.in_ok-body.ensures
