-- `writer_parse::keys::name_at` meets its contract: only a string is a name.
-- Assumes nothing.
use Rattle.std.proofs.Common.{ℕ, ◌≡◌, rules, arith}
use Rattle.std.proofs.lemmas.Result.{err_from_is_err_and}
use Rattle.writer_tokens.specs.declared.Token.TheVariants as token
use Rattle.writer_parse.proofs.Keying.{naming}
use Rattle.writer_parse.proofs.keys.name_at.Goals as goal

pub returns-in_err-q : goal.returns-in_err-q
returns-in_err-q c =
    let p = err_from_is_err_and c.from_residual.result c.from_residual.ensures.1 in
    rw (p.1, p.2) (search (naming, c.in_err-q.ensures, rules))

pub returns-in-String : goal.returns-in-String
returns-in-String c = search (naming, c.in_ok-q.ensures, rules)

pub returns-in_default : goal.returns-in_default
returns-in_default c =
    let x : (q : ℕ) → c.in_ok-q.field-0 ≡ token.String q → ⊥ = λ q e. grind arith in
    search (naming, x, c.in_ok-q.ensures, rules)
