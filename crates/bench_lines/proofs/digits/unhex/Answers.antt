-- `unhex` meets its contract: each way to leave it, and each turn of its loop.
-- Assumes nothing.
use Rattle.std.proofs.Common.{rules}
use Rattle.bench_lines.proofs.Spelling.{spelt_none, spelt-wrong, spelt-next, spelt-done}
use Rattle.bench_lines.proofs.digits.unhex.Goals as goal

pub returns-then-s-ne0 : goal.returns-then-s-ne0
returns-then-s-ne0 c = spelt_none c.then-s-ne0.either

pub returns-in_err-out : goal.returns-in_err-out
returns-in_err-out c = rw c.from_residual.ensures (spelt-wrong c.loop-i.invariant c.loop-i-test.true c.in_err-out.ensures)

pub loop-i-preserved : goal.loop-i-preserved
loop-i-preserved c = spelt-next c.loop-i.invariant c.loop-i-test.true c.in_ok-out.ensures

pub returns : goal.returns
returns c = search (spelt-done, rules)
