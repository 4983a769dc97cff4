-- `writer_parse::keys::named_at` meets its contract: no name, no colon, or both.
-- Assumes nothing.
use Rattle.std.proofs.Common.{rules}
use Rattle.std.proofs.lemmas.Result.{err_from_is_err_and}
use Rattle.writer_parse.proofs.Keying.{membering}
use Rattle.writer_parse.proofs.keys.named_at.Goals as goal

pub returns-in_err-key : goal.returns-in_err-key
returns-in_err-key c =
    let p = err_from_is_err_and c.from_residual.result c.from_residual.ensures.1 in
    rw (p.1, p.2) (search (membering, c.in_err-key.ensures, rules))

pub returns-in_err-next : goal.returns-in_err-next
returns-in_err-next c =
    let p = err_from_is_err_and c.from_residual-in_err-next.result c.from_residual-in_err-next.ensures.1 in
    rw (p.1, p.2) (search (membering, c.in_ok-key.ensures, c.in_err-next.ensures, rules))

pub returns : goal.returns
returns c = search (membering, c.in_ok-key.ensures, c.in_ok-next.ensures, rules)
