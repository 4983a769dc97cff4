-- `desk_calls::status` meets its contract.
-- Assumes nothing.
use Rattle.std.proofs.lemmas.Result.{err_from_is_err_and}
use Rattle.desk_calls.proofs.Serving.{status-unread, status-refused, status-done}
use Rattle.desk_calls.proofs.status.Goals as goal

pub returns-in_err-read : goal.returns-in_err-read
returns-in_err-read c =
    let p = err_from_is_err_and c.from_residual.result c.from_residual.ensures.1 in
    rw (p.1, p.2) (status-unread _ _ _ _ c.in_err-read.ensures)

pub returns-in_err-t : goal.returns-in_err-t
returns-in_err-t c =
    let p = err_from_is_err_and c.from_residual-in_err-t.result c.from_residual-in_err-t.ensures.1 in
    rw (p.1, p.2) (status-refused _ _ _ _ c.in_ok-read.ensures _ c.in_err-t.ensures)

pub returns : goal.returns
returns c = status-done _ _ _ _ c.in_ok-read.ensures _ c.in_ok-t.ensures _ c.lay.ensures
