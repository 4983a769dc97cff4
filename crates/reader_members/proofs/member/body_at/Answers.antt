-- `reader_members::member::body_at` meets its contract, check by check.
-- Assumes nothing.
use Rattle.std.proofs.lemmas.Result.{err_from_is_err_and}
use Rattle.reader_members.proofs.Bodies.{group-low, plain-high, tested, body-form, body-misfit, body-part, body-group, body-wrong, body-word}
use Rattle.reader_members.proofs.member.body_at.Goals as goal

pub returns-in_err-format : goal.returns-in_err-format
returns-in_err-format c =
    let p = err_from_is_err_and c.from_residual.result c.from_residual.ensures.1 in
    rw (p.1, p.2) (body-form _ _ _ _ _ c.in_err-format.ensures)

pub returns-then-not-fits : goal.returns-then-not-fits
returns-then-not-fits c =
    body-misfit _ _ _ _ _ _ c.in_ok-format.ensures (tested _ _ _ c.number.ensures c.fits.ensures c.if-not-fits.true)

pub returns-in_err-value : goal.returns-in_err-value
returns-in_err-value c =
    let p = err_from_is_err_and c.from_residual-in_err-value.result c.from_residual-in_err-value.ensures.1 in
    rw (p.1, p.2) (body-part _ _ _ _ _ _ c.in_ok-format.ensures (tested _ _ _ c.number.ensures c.fits.ensures c.if-not-fits.false) c.in_err-value.ensures)

pub returns-in-Set : goal.returns-in-Set
returns-in-Set c =
    body-group _ _ _ _ _ _ c.in_ok-format.ensures (tested _ _ _ c.number.ensures c.fits.ensures c.if-not-fits.false) _ c.in_ok-value.ensures (group-low c.in-Set.is)

pub returns-in_err-long-in_default : goal.returns-in_err-long-in_default
returns-in_err-long-in_default c =
    let p = err_from_is_err_and c.from_residual-in_err-long-in_default.result c.from_residual-in_err-long-in_default.ensures.1 in
    rw (p.1, p.2)
    (body-wrong _ _ _ _ _ _ c.in_ok-format.ensures (tested _ _ _ c.number.ensures c.fits.ensures c.if-not-fits.false) _ c.in_ok-value.ensures
    (plain-high _ c.in_default.not-Set c.in_default.not-Array) c.in_err-long-in_default.ensures)

pub returns-in_ok-long-in_default : goal.returns-in_ok-long-in_default
returns-in_ok-long-in_default c =
    body-word _ _ _ _ _ _ c.in_ok-format.ensures (tested _ _ _ c.number.ensures c.fits.ensures c.if-not-fits.false) _ c.in_ok-value.ensures
    (plain-high _ c.in_default.not-Set c.in_default.not-Array) c.in_ok-long-in_default.ensures
