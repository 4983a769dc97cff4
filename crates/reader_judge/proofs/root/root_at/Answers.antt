-- `reader_judge::root::root_at` meets its contract: the root, its count and length, and nothing after it.
-- Assumes nothing.
use Rattle.std.proofs.lemmas.Result.{err_from_is_err_and}
use Rattle.paper.specs.Limits.{payload_least}
use Rattle.reader_judge.proofs.Insides.{ok-placed, err-placed}
use Rattle.reader_judge.proofs.Roots.{root-field, root-site, root-inner, root-after, root-left, root-good}
use Rattle.reader_judge.proofs.root.root_at.Goals as goal

pub returns-in_err-value : goal.returns-in_err-value
returns-in_err-value c =
    let p = err_from_is_err_and c.from_residual.result c.from_residual.ensures.1 in
    let e = err-placed c.root_value.result payload_least c.placed.ensures c.in_err-value.was in
    rw (p.1, p.2, ← e.1) (root-field _ _ _ _ (rw e.0 at c.root_value.ensures))

pub inside-requires : goal.inside-requires
inside-requires c = root-site _ _ _ _ (rw (ok-placed c.root_value.result payload_least c.placed.ensures c.in_ok-value.was) at c.root_value.ensures) c.requires

pub returns-in_err-inner : goal.returns-in_err-inner
returns-in_err-inner c =
    let p = err_from_is_err_and c.from_residual-in_err-inner.result c.from_residual-in_err-inner.ensures.1 in
    rw (p.1, p.2) (root-inner _ _ _ _ (rw (ok-placed c.root_value.result payload_least c.placed.ensures c.in_ok-value.was) at c.root_value.ensures) c.in_err-inner.ensures)

pub returns-then-value-s : goal.returns-then-value-s
returns-then-value-s c = rw (c.at.ensures.refusal, c.at.ensures.place) (root-after _ _ _ _ (rw (ok-placed c.root_value.result payload_least c.placed.ensures c.in_ok-value.was) at c.root_value.ensures) _ _ c.in_ok-inner.ensures c.if-value-s.true)

pub overflow_sub-result : goal.overflow_sub-result
overflow_sub-result c = root-left _ _ _ _ (rw (ok-placed c.root_value.result payload_least c.placed.ensures c.in_ok-value.was) at c.root_value.ensures) _ _ c.in_ok-inner.ensures c.type_inv.s

pub returns : goal.returns
returns c = root-good _ _ _ _ (rw (ok-placed c.root_value.result payload_least c.placed.ensures c.in_ok-value.was) at c.root_value.ensures) _ _ c.in_ok-inner.ensures c.type_inv.s c.if-value-s.false
