-- `writer_parse::heads::option_at` meets its contract: the option is a child of the row, or none.
-- Assumes nothing.
use Rattle.std.proofs.Common.{◌≡◌, rules, arith, Some, None}
use Rattle.std.proofs.lemmas.Result.{err_from_is_err_and}
use Rattle.writer_parse.proofs.Heading.{options}
use Rattle.writer_parse.proofs.heads.option_at.Goals as goal

pub child_named-requires-clause-row_in : goal.child_named-requires-clause-row_in
child_named-requires-clause-row_in c = search (options, rules)

pub returns-in_err-child : goal.returns-in_err-child
returns-in_err-child c =
    let p = err_from_is_err_and c.from_residual.result c.from_residual.ensures.1 in
    let n : c.child_named.result ≡ None = grind arith in
    let k : c.in_err-child.field-0.0 ≡ c.at.result = grind arith in
    rw (p.1, p.2, k) (search (options, rules))

pub sequence_number-requires : goal.sequence_number-requires
sequence_number-requires c =
    let k : c.child_named.result ≡ Some c.in_ok-child.child = grind arith in
    search (options, rules)

pub returns : goal.returns
returns c =
    let k : c.child_named.result ≡ Some c.in_ok-child.child = grind arith in
    search (options, rules)
