-- Laws of `vacant`, the count of empty places, before and after a record is replaced.
-- Assumes nothing.
use Prim.Native.Nat.{ℕ, zero, suc, ◌+◌, ◌<◌, ◌≤◌}
use mathlib.Core.Path.{◌≡◌, refl}
use mathlib.Core.List.{List, [], ◌∷◌}
use native.Mathlib.Nat.{not-suc-le-zero}
use native.Mathlib.Omega.{arith}
use lib.ListN.{length, get_or, set}
use lib.Dec.{eqb}
use Rattle.paper.proofs.Tests.{split}
use Rattle.desk_records.specs.declared.Record.{Record}
use Rattle.desk_records.specs.Record.{empty}
use Rattle.desk.specs.Desk.{place}
use Rattle.desk_laws.specs.State.{vacant}

-- a place is empty where one is counted
pub vacant-place : (rs : List Record) → 1 ≤ vacant rs → place 0 rs < length rs
unfolding place vacant
vacant-place [] h = absurd (not-suc-le-zero h)
vacant-place (r ∷ rs) h =
    split (eqb r.number 0)
    (λ t. rw t (omega arith))
    (λ t. rw t (let q = vacant-place rs (rw t at h) in omega arith))

-- what a record put in takes away, or gives back
pub vacant-same : (rs : List Record) (p : ℕ) (r : Record) → r.number ≡ (get_or rs p empty).number → vacant (set rs p r) ≡ vacant rs
unfolding vacant
vacant-same [] p r e = refl
vacant-same (x ∷ rs) zero r e = rw e
vacant-same (x ∷ rs) (suc p) r e = rw (vacant-same rs p r e)

pub vacant_gone : (rs : List Record) (p : ℕ) → vacant rs ≤ vacant (set rs p empty)
unfolding vacant
vacant_gone [] p = omega arith
vacant_gone (x ∷ rs) zero = split (eqb x.number 0) (λ t. rw t (omega arith)) (λ t. rw t (omega arith))
vacant_gone (x ∷ rs) (suc p) =
    let q = vacant_gone rs p in
    split (eqb x.number 0) (λ t. rw t (omega arith)) (λ t. rw t (omega arith))

pub vacant-one : (rs : List Record) (p : ℕ) (r : Record) → vacant rs ≤ vacant (set rs p r) + 1
unfolding vacant
vacant-one [] p r = omega arith
vacant-one (x ∷ rs) zero r =
    split (eqb x.number 0)
    (λ t. split (eqb r.number 0) (λ u. rw (t, u) (omega arith)) (λ u. rw (t, u) (omega arith)))
    (λ t. split (eqb r.number 0) (λ u. rw (t, u) (omega arith)) (λ u. rw (t, u) (omega arith)))
vacant-one (x ∷ rs) (suc p) r =
    let q = vacant-one rs p r in
    split (eqb x.number 0) (λ t. rw t (omega arith)) (λ t. rw t (omega arith))
