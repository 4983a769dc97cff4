-- `writer_parse::heads::integer_at` meets its contract: a format that does not fit, no integer, or one.
-- Assumes nothing.
use Rattle.std.proofs.Common.{◌≡◌, rules, arith, Some, None}
use Rattle.std.proofs.lemmas.Result.{err_from_is_err_and}
use Rattle.writer_parse.proofs.Heading.{integers}
use Rattle.writer_parse.proofs.heads.integer_at.Goals as goal

pub returns-in_err-fit_at : goal.returns-in_err-fit_at
returns-in_err-fit_at c =
    let p = err_from_is_err_and c.from_residual.result c.from_residual.ensures.1 in
    rw (p.1, p.2) (search (integers, c.in_err-fit_at.ensures, rules))

pub returns-in_err-i : goal.returns-in_err-i
returns-in_err-i c =
    let p = err_from_is_err_and c.from_residual-in_err-i.result c.from_residual-in_err-i.ensures.1 in
    let n : c.integer_said.result ≡ None = grind arith in
    let k : c.in_err-i.field-0.0 ≡ c.at.result = grind arith in
    rw (p.1, p.2, k) (search (integers, c.in_ok-fit_at.ensures, rules))

pub returns : goal.returns
returns c =
    let k : c.integer_said.result ≡ Some c.in_ok-i.i = grind arith in
    search (integers, c.in_ok-fit_at.ensures, rules)
