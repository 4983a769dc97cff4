-- `writer_judge::roots::root_at` meets its contract: each kind of token.
-- Assumes nothing.
use Rattle.std.proofs.Common.{rules}
use Rattle.std.proofs.lemmas.Result.{err_from_is_err_and}
use Rattle.writer_judge.proofs.Rooting.{rooting}
use Rattle.writer_judge.proofs.roots.root_at.Goals as goal

pub returns-in_err-c : goal.returns-in_err-c
returns-in_err-c c =
    let p = err_from_is_err_and c.from_residual.result c.from_residual.ensures.1 in
    rw (p.1, p.2) (search (rooting, c.in_err-c.ensures, rules))

pub returns-in-Sign : goal.returns-in-Sign
returns-in-Sign c = search (rooting, c.in_ok-c.ensures, rules)

pub returns-in-Real : goal.returns-in-Real
returns-in-Real c = search (rooting, c.in_ok-c.ensures, rules)

pub returns-in_default : goal.returns-in_default
returns-in_default c = search (rooting, c.in_default.not-Sign, c.in_default.not-Real, c.in_ok-c.ensures, rules)
