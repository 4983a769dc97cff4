-- Where a number stands: the lowest place that has it is the one that `place` finds, and `has` tells whether there is one.
-- Assumes a desk of eight records.
use Prim.Native.Nat.{ℕ, zero, suc, ◌<◌, ◌≤◌}
use mathlib.Core.Path.{◌≡◌}
use mathlib.Core.Bool.{true, false}
use mathlib.Core.List.{List, [], ◌∷◌}
use native.Mathlib.Nat.{le_of_suc-le-suc, not-suc-le-zero}
use native.Mathlib.Omega.{arith}
use lib.ListN.{length, get_or}
use lib.Dec.{eqb, ltb}
use borrow.Author.Tests.{eq-eqb, lt-ltb, ltb-true, ltb-false}
use Rattle.paper.specs.Limits.{desk_most}
use Rattle.paper.proofs.Tests.{split}
use Rattle.desk_records.specs.declared.Record.{Record}
use Rattle.desk_records.specs.Record.{empty}
use Rattle.desk.specs.declared.Desk.{Desk}
use Rattle.desk.specs.Desk.{place, has}
use Rattle.desk.proofs.Places.{place-number}
use Rattle.desk_laws.specs.Refusing.{Stands, Lowest}

pub place-least : (n : ℕ) (rs : List Record) (p : ℕ) → p < length rs → (get_or rs p empty).number ≡ n → place n rs ≤ p
unfolding place
place-least n [] p h e = absurd (not-suc-le-zero h)
place-least n (r ∷ rs) zero h e = rw (eq-eqb _ _ e) (omega arith)
place-least n (r ∷ rs) (suc p) h e =
    let q = place-least n rs p (le_of_suc-le-suc h) e in
    split (eqb r.number n)
    (λ t. rw t (omega arith))
    (λ t. rw t (omega arith))

module _ (n : ℕ) (d : Desk) (l : length d.records ≡ desk_most) where
  pub has-stands : has n d ≡ true → Lowest n d (place n d.records)
  has-stands t =
      let h = ltb-true (place n d.records) desk_most t in
      record {
        within = h;
        names = place-number n d.records (omega arith);
        first = λ q less e. let y = place-least n d.records q (omega arith) e in omega arith;
      }

  pub stands-has : Stands n d → has n d ≡ true
  stands-has x =
      let w = x.within in
      let y = place-least n d.records x.at (omega arith) x.names in
      lt-ltb (place n d.records) desk_most (omega arith)

  pub has-not : has n d ≡ false → Stands n d → ⊥
  has-not t x =
      let w = x.within in
      let y = place-least n d.records x.at (omega arith) x.names in
      let z = ltb-false (place n d.records) desk_most t in
      omega arith

  pub not-has : (Stands n d → ⊥) → has n d ≡ false
  not-has none =
      split (has n d)
      (λ t. let x = has-stands t in absurd (none (record { at = place n d.records; within = x.within; names = x.names })))
      (λ t. t)

  pub lowest-place : (p : ℕ) → Lowest n d p → p ≡ place n d.records
  lowest-place p x =
      let w = x.within in
      let y = place-least n d.records p (omega arith) x.names in
      split (ltb (place n d.records) p)
      (λ t.
      let u = ltb-true (place n d.records) p t in
      absurd (x.first (place n d.records) u (place-number n d.records (omega arith))))
      (λ t. let u = ltb-false (place n d.records) p t in omega arith)

  pub lowest-has : (p : ℕ) → Lowest n d p → has n d ≡ true
  lowest-has p x = stands-has (record { at = p; within = x.within; names = x.names })
