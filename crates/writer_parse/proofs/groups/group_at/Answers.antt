-- `writer_parse::groups::group_at` meets its contract: a format that does not fit, too deep, no token, an empty group or members.
-- Assumes nothing.
use Rattle.std.proofs.Common.{ℕ, ◌≡◌, rules, arith}
use Rattle.std.proofs.lemmas.Result.{err_from_is_err_and}
use Rattle.writer_tokens.specs.declared.Token.TheVariants as token
use Rattle.writer_parse.proofs.Grouping.{grouping}
use Rattle.writer_parse.proofs.groups.group_at.Goals as goal

pub returns-in_err-fit_at : goal.returns-in_err-fit_at
returns-in_err-fit_at c =
    let p = err_from_is_err_and c.from_residual.result c.from_residual.ensures.1 in
    rw (p.1, p.2) (search (grouping, c.in_err-fit_at.ensures, rules))

pub returns-then-room-eq0 : goal.returns-then-room-eq0
returns-then-room-eq0 c = search (grouping, c.in_ok-fit_at.ensures, rules)

pub returns-in_err-c : goal.returns-in_err-c
returns-in_err-c c =
    let p = err_from_is_err_and c.from_residual-in_err-c.result c.from_residual-in_err-c.ensures.1 in
    rw (p.1, p.2) (search (grouping, c.in_ok-fit_at.ensures, c.in_err-c.ensures, rules))

pub returns-in-Sign : goal.returns-in-Sign
returns-in-Sign c = search (grouping, c.in_ok-fit_at.ensures, c.in_ok-c.ensures, rules)

pub returns-in_default : goal.returns-in_default
returns-in_default c = search (grouping, c.in_ok-fit_at.ensures, c.in_ok-c.ensures, rules)

pub returns-in_default-2 : goal.returns-in_default-2
returns-in_default-2 c =
    let x : (b : ℕ) → c.in_ok-c.field-0 ≡ token.Sign b → ⊥ = λ b e. grind arith in
    search (grouping, x, c.in_ok-fit_at.ensures, c.in_ok-c.ensures, rules)
