-- `number` meets its contract: each way to leave the loop, and each turn of it.
-- Assumes nothing.
use Rattle.std.proofs.Common.{rules}
use Rattle.bench_lines.proofs.Spelling.{number_wrong, number_large, number-next, number-done}
use Rattle.bench_lines.proofs.digits.number.Goals as goal

pub returns-in_err-to_digit : goal.returns-in_err-to_digit
returns-in_err-to_digit c = search (number_wrong, rules)

pub returns-then-n-most : goal.returns-then-n-most
returns-then-n-most c = number_large c.loop-c.invariant c.loop-c-test.true c.if-n-most.true c.from-in-loop-c.ensures c.in_ok-to_digit.ensures.value c.from.ensures

pub loop-c-preserved : goal.loop-c-preserved
loop-c-preserved c = number-next c.loop-c.invariant c.loop-c-test.true c.from-in-loop-c.ensures c.in_ok-to_digit.ensures.value c.from.ensures c.if-n-most.false

pub returns : goal.returns
returns c = search (number-done, rules)
