-- Laws of `place` and of the record at a place, before and after a record is replaced.
-- Assumes nothing.
use Prim.Native.Nat.{ℕ, zero, suc, ◌<◌, ◌≤◌}
use mathlib.Core.Path.{◌≡◌, refl, sym, ap, ◌∙◌}
use mathlib.Core.List.{List, [], ◌∷◌}
use native.Mathlib.Nat.{le_of_suc-le-suc, not-suc-le-zero}
use native.Mathlib.Omega.{arith}
use lib.ListN.{length, get_or, set, get_or-eq_default}
use lib.Seq.{get_or-set_same}
use lib.Dec.{eqb, ltb}
use borrow.Author.Tests.{eq-eqb, ne_eqb, eqb-true, eqb-false, ltb-true, ltb-false}
use Rattle.paper.proofs.Tests.{split}
use Rattle.desk_records.specs.declared.Record.{Record}
use Rattle.desk_records.specs.Record.{empty}
use Rattle.desk.specs.Desk.{place}

-- the record of a number; `record_of n d` is that of the desk's records
abbrev pub at : ℕ → List Record → Record
at n rs = get_or rs (place n rs) empty

-- the record at a number's place has the number
pub place-number : (n : ℕ) (rs : List Record) → place n rs < length rs → (at n rs).number ≡ n
unfolding place
place-number n [] h = absurd (not-suc-le-zero h)
place-number n (r ∷ rs) h =
    split (eqb r.number n)
    (λ t. rw t (eqb-true _ _ t))
    (λ t. rw t (place-number n rs (le_of_suc-le-suc (rw t at h))))

-- a number that no record has
pub at-absent : (n : ℕ) (rs : List Record) → length rs ≤ place n rs → at n rs ≡ empty
at-absent n rs h = get_or-eq_default rs empty h

-- a number stands on the desk exactly where the record of it says so
pub known : (n : ℕ) (rs : List Record) → (n ≡ 0 → ⊥) → ltb (place n rs) (length rs) ≡ eqb (at n rs).number n
known n rs z =
    split (ltb (place n rs) (length rs))
    (λ t. t ∙ sym (eq-eqb _ _ (place-number n rs (ltb-true _ _ t))))
    (λ t. t ∙ sym (ne_eqb _ _ (λ e. z (sym e ∙ ap (λ (r : Record). r.number) (at-absent n rs (ltb-false _ _ t))))))

-- a number that neither the old record nor the new one has
module _ (m : ℕ) where
  pub place_other : (rs : List Record) (p : ℕ) (r : Record) → ((get_or rs p empty).number ≡ m → ⊥) → (r.number ≡ m → ⊥) → place m (set rs p r) ≡ place m rs
  unfolding place
  place_other [] p r old new = refl
  place_other (x ∷ rs) zero r old new = rw (ne_eqb _ _ old, ne_eqb _ _ new)
  place_other (x ∷ rs) (suc p) r old new = rw (place_other rs p r old new)

  pub at_other : (rs : List Record) (p : ℕ) (r : Record) → ((get_or rs p empty).number ≡ m → ⊥) → (r.number ≡ m → ⊥) → at m (set rs p r) ≡ at m rs
  unfolding place
  at_other [] p r old new = refl
  at_other (x ∷ rs) zero r old new = rw (ne_eqb _ _ old, ne_eqb _ _ new)
  at_other (x ∷ rs) (suc p) r old new = split (eqb x.number m) (λ t. rw t) (λ t. rw t (at_other rs p r old new))

-- a record with the number of the one that it replaces
pub place_same : (n : ℕ) (rs : List Record) (p : ℕ) (r : Record) → r.number ≡ (get_or rs p empty).number → place n (set rs p r) ≡ place n rs
unfolding place
place_same n [] p r e = refl
place_same n (x ∷ rs) zero r e = rw e
place_same n (x ∷ rs) (suc p) r e = rw (place_same n rs p r e)

pub at_same : (n : ℕ) (rs : List Record) (r : Record) → place n rs < length rs → r.number ≡ n → at n (set rs (place n rs) r) ≡ r
at_same n rs r h e = rw (place_same n rs (place n rs) r (e ∙ sym (place-number n rs h))) (get_or-set_same rs (place n rs) r empty h)

pub absent-tail : (n : ℕ) (r : Record) (rs : List Record) → length (r ∷ rs) ≤ place n (r ∷ rs) → (r.number ≡ n → ⊥) × (length rs ≤ place n rs)
unfolding place
absent-tail n r rs h =
    split (eqb r.number n)
    (λ t. absurd (not-suc-le-zero (rw t at h)))
    (λ t. (eqb-false _ _ t, le_of_suc-le-suc (rw t at h)))

pub absent_cons : (n : ℕ) (r : Record) (rs : List Record) → (r.number ≡ n → ⊥) → length rs ≤ place n rs → length (r ∷ rs) ≤ place n (r ∷ rs)
unfolding place
absent_cons n r rs z h = rw (ne_eqb _ _ z) (omega arith)

-- a number that is not there, and a record of it put in at any place
pub place-new : (n : ℕ) (rs : List Record) (p : ℕ) (r : Record) → p < length rs → length rs ≤ place n rs → r.number ≡ n → place n (set rs p r) ≡ p
unfolding place
place-new n [] p r h a e = absurd (not-suc-le-zero h)
place-new n (x ∷ rs) zero r h a e = rw (eq-eqb _ _ e)
place-new n (x ∷ rs) (suc p) r h a e =
    let t = absent-tail n x rs a in
    rw (ne_eqb _ _ t.0, place-new n rs p r (le_of_suc-le-suc h) t.1 e)

pub at_new : (n : ℕ) (rs : List Record) (p : ℕ) (r : Record) → p < length rs → length rs ≤ place n rs → r.number ≡ n → at n (set rs p r) ≡ r
at_new n rs p r h a e = rw (place-new n rs p r h a e) (get_or-set_same rs p r empty h)

-- .. and one that has another number
pub absent-set : (n : ℕ) (rs : List Record) (p : ℕ) (r : Record) → length rs ≤ place n rs → (r.number ≡ n → ⊥) → length (set rs p r) ≤ place n (set rs p r)
absent-set n [] p r a z = a
absent-set n (x ∷ rs) zero r a z = absent_cons n r rs z (absent-tail n x rs a).1
absent-set n (x ∷ rs) (suc p) r a z =
    absent_cons n x (set rs p r) (absent-tail n x rs a).0 (absent-set n rs p r (absent-tail n x rs a).1 z)
