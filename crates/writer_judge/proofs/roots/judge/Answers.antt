-- `writer_judge::roots::judge` meets its contract: refused at the root, inside it or after it, or whole.
-- Assumes nothing.
use Rattle.std.proofs.Common.{rules}
use Rattle.std.proofs.lemmas.Result.{err_from_is_err_and}
use Rattle.writer_judge.proofs.Rooting.{judging}
use Rattle.writer_judge.proofs.roots.judge.Goals as goal

pub returns-in_err-root_at : goal.returns-in_err-root_at
returns-in_err-root_at c =
    let p = err_from_is_err_and c.from_residual.result c.from_residual.ensures.1 in
    rw (p.1, p.2) (search (judging, c.in_err-root_at.ensures, rules))

pub returns-in_err-root : goal.returns-in_err-root
returns-in_err-root c =
    let p = err_from_is_err_and c.from_residual-in_err-root.result c.from_residual-in_err-root.ensures.1 in
    rw (p.1, p.2) (search (judging, c.in_ok-root_at.ensures, c.in_err-root.ensures, rules))

pub returns-then-end-s : goal.returns-then-end-s
returns-then-end-s c = search (judging, c.in_ok-root_at.ensures, c.in_ok-root.ensures, rules)

pub returns : goal.returns
returns c = search (judging, c.in_ok-root_at.ensures, c.in_ok-root.ensures, rules)
