-- `desk_calls::list` meets its contract.
-- Assumes nothing.
use Rattle.std.proofs.lemmas.Result.{err_from_is_err_and}
use Rattle.desk_calls.proofs.Serving.{list-unread}
use Rattle.desk_calls.proofs.list.Goals as goal

pub returns-in_err-read : goal.returns-in_err-read
returns-in_err-read c =
    let p = err_from_is_err_and c.from_residual.result c.from_residual.ensures.1 in
    rw (p.1, p.2) (list-unread _ _ _ c.in_err-read.ensures)
