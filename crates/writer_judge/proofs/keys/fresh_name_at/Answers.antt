-- `writer_judge::keys::fresh_name_at` meets its contract: no name, one that was given, no colon, or all of it.
-- Assumes nothing.
use Rattle.std.proofs.Common.{rules}
use Rattle.std.proofs.lemmas.Result.{err_from_is_err_and}
use Rattle.writer_judge.proofs.Freshly.{freshly}
use Rattle.writer_judge.proofs.keys.fresh_name_at.Goals as goal

pub returns-in_err-key : goal.returns-in_err-key
returns-in_err-key c =
    let p = err_from_is_err_and c.from_residual.result c.from_residual.ensures.1 in
    rw (p.1, p.2) (search (freshly, c.in_err-key.ensures, rules))

pub given-requires : goal.given-requires
given-requires c = search (freshly, c.in_ok-key.ensures, rules)

pub returns-then-given : goal.returns-then-given
returns-then-given c = search (freshly, c.in_ok-key.ensures, rules)

pub give-requires : goal.give-requires
give-requires c = search (freshly, c.in_ok-key.ensures, rules)

pub returns-in_err-next : goal.returns-in_err-next
returns-in_err-next c =
    let p = err_from_is_err_and c.from_residual-in_err-next.result c.from_residual-in_err-next.ensures.1 in
    rw (p.1, p.2) (search (freshly, c.in_ok-key.ensures, c.in_err-next.ensures, rules))

pub returns : goal.returns
returns c = search (freshly, c.in_ok-key.ensures, c.in_ok-next.ensures, rules)
