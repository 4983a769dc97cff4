-- `writer_judge::measuring::+measure` meets its contract: each return and each turn of its loop.
-- Assumes nothing. After the call of itself the facts that a lemma needs are listed: among all that is known there `search` runs out of steps.
use Rattle.std.proofs.Common.{rules}
use Rattle.std.proofs.lemmas.Result.{err_from_is_err_and}
use Rattle.writer_judge.proofs.Gathers.{gathering, no_key, turn-refused, turn-ends, turn-stops, turn_again}
use Rattle.writer_judge.proofs.measuring.+measure.Goals as goal

pub loop-was-init : goal.loop-was-init
loop-was-init t c = search (gathering, c.in_ok-v.ensures, rules)

pub returns-in_err-key-in-Many : goal.returns-in_err-key-in-Many
returns-in_err-key-in-Many t c =
    let p = err_from_is_err_and c.from_residual-in_err-key-in-Many.result c.from_residual-in_err-key-in-Many.ensures.1 in
    rw (p.1, p.2) (search (no_key, c.in_err-key-in-Many.ensures, c.loop-was.invariant, c.loop-was-test.true))

pub returns-in_err-member-in-Many : goal.returns-in_err-member-in-Many
returns-in_err-member-in-Many t c =
    let p = err_from_is_err_and c.from_residual-in_err-member-in-Many.result c.from_residual-in_err-member-in-Many.ensures.1 in
    rw (p.1, p.2) (search (turn-refused, c.in_err-member-in-Many.ensures, c.loop-was.invariant, c.in_ok-key-in-Many.ensures, c.loop-was-test.true))

pub returns-in_err-group-in-Many : goal.returns-in_err-group-in-Many
returns-in_err-group-in-Many t c =
    let p = err_from_is_err_and c.from_residual-in_err-group-in-Many.result c.from_residual-in_err-group-in-Many.ensures.1 in
    rw (p.1, p.2) (search (turn-ends, c.in_err-group-in-Many.ensures, c.in_ok-member-in-Many.ensures, c.loop-was.invariant, c.in_ok-key-in-Many.ensures, c.loop-was-test.true))

pub returns-in-Stop : goal.returns-in-Stop
returns-in-Stop t c = search (turn-stops, c.in-Stop.is, c.in_ok-group-in-Many.ensures, c.in_ok-member-in-Many.ensures, c.loop-was.invariant, c.in_ok-key-in-Many.ensures, c.loop-was-test.true)

pub loop-was-preserved : goal.loop-was-preserved
loop-was-preserved t c = search (turn_again, c.in-On.is, c.in_ok-group-in-Many.ensures, c.in_ok-member-in-Many.ensures, c.loop-was.invariant, c.in_ok-key-in-Many.ensures, c.loop-was-test.true)

pub returns-in-Leaf : goal.returns-in-Leaf
returns-in-Leaf t c = search (gathering, c.in_ok-v.ensures, rules)

pub returns-after-loop-was : goal.returns-after-loop-was
returns-after-loop-was t c = search (gathering, rules)
