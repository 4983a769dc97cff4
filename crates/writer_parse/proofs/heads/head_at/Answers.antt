-- `writer_parse::heads::head_at` meets its contract: each kind of token.
-- Assumes nothing.
use Rattle.std.proofs.Common.{rules}
use Rattle.std.proofs.lemmas.Result.{err_from_is_err_and}
use Rattle.writer_parse.proofs.Heading.{heading}
use Rattle.writer_parse.proofs.heads.head_at.Goals as goal

pub returns-in_err-token_at : goal.returns-in_err-token_at
returns-in_err-token_at c =
    let p = err_from_is_err_and c.from_residual.result c.from_residual.ensures.1 in
    rw (p.1, p.2) (search (heading, c.in_err-token_at.ensures, rules))

pub returns-in-Sign-eq123 : goal.returns-in-Sign-eq123
returns-in-Sign-eq123 c = search (heading, c.in_ok-token_at.ensures, rules)

pub returns-in-Sign-eq91 : goal.returns-in-Sign-eq91
returns-in-Sign-eq91 c = search (heading, c.in_ok-token_at.ensures, rules)

pub returns-in-Sign : goal.returns-in-Sign
returns-in-Sign c = search (heading, c.in_ok-token_at.ensures, rules)

pub returns-in-String : goal.returns-in-String
returns-in-String c = search (heading, c.in_ok-token_at.ensures, rules)

pub returns-in-Null : goal.returns-in-Null
returns-in-Null c = search (heading, c.in_ok-token_at.ensures, rules)

pub returns-in-Boolean : goal.returns-in-Boolean
returns-in-Boolean c = search (heading, c.in_ok-token_at.ensures, rules)

pub returns-in-Integer : goal.returns-in-Integer
returns-in-Integer c = search (heading, c.in_ok-token_at.ensures, rules)

pub returns-in-Real : goal.returns-in-Real
returns-in-Real c = search (heading, c.in_ok-token_at.ensures, rules)
