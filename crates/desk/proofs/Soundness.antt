-- A sound desk stays sound when a record of it is replaced: by one with the same number, by the empty one, by one whose number is new.
-- On a sound desk a number stands in one place, and the number 0 has the empty record.
-- Assumes nothing.
use Prim.Native.Nat.{ℕ, zero, suc, ◌<◌, ◌≤◌}
use mathlib.Core.Path.{◌≡◌, refl, sym, ◌∙◌}
use mathlib.Core.Bool.{true, ◌&&◌}
use mathlib.Core.List.{List, [], ◌∷◌}
use native.Mathlib.Nat.{le_of_suc-le-suc, not-suc-le-zero}
use native.Mathlib.Omega.{arith}
use lib.ListN.{length, get_or, set, length-set}
use lib.Dec.{eqb}
use borrow.Author.Tests.{eq-eqb, ne_eqb, eqb-true, eqb-false, leb-true, le-leb}
use Rattle.paper.proofs.Tests.{and_left, and_right, and_both, split}
use Rattle.desk_records.specs.declared.Record.{Record}
use Rattle.desk_records.specs.Record.{empty, sound_record, else_zero}
use Rattle.desk_records.proofs.Moving.{Used, sound-used}
use Rattle.desk.specs.declared.Desk.{Desk}
use Rattle.desk.specs.Desk.{place, alone, sound_records, sound, put}
use Rattle.desk.proofs.Places.{at, place-number, place_same, absent-tail, absent_cons, absent-set}

module _ (r : Record) (rs : List Record) where
  pub sound-head : sound_records (r ∷ rs) ≡ true → sound_record r ≡ true
  unfolding sound_records
  sound-head s = and_left (sound_record r) (alone r.number rs) (and_left (sound_record r && alone r.number rs) (sound_records rs) s)

  pub sound-alone : sound_records (r ∷ rs) ≡ true → alone r.number rs ≡ true
  unfolding sound_records
  sound-alone s = and_right (sound_record r) (alone r.number rs) (and_left (sound_record r && alone r.number rs) (sound_records rs) s)

  pub sound-tail : sound_records (r ∷ rs) ≡ true → sound_records rs ≡ true
  unfolding sound_records
  sound-tail s = and_right (sound_record r && alone r.number rs) (sound_records rs) s

  pub sound_cons : sound_record r ≡ true → alone r.number rs ≡ true → sound_records rs ≡ true → sound_records (r ∷ rs) ≡ true
  unfolding sound_records
  sound_cons a b c = and_both _ _ (and_both _ _ a b) c

pub sound_none : sound_records [] ≡ true
unfolding sound_records
sound_none = refl

pub alone-absent : (n : ℕ) (rs : List Record) → alone n rs ≡ true → (n ≡ 0 → ⊥) → length rs ≤ place n rs
unfolding alone
alone-absent n rs f z = leb-true _ _ (rw (ne_eqb _ _ z) at f)

pub absent-alone : (n : ℕ) (rs : List Record) → ((n ≡ 0 → ⊥) → length rs ≤ place n rs) → alone n rs ≡ true
unfolding alone
absent-alone n rs h = split (eqb n 0) (λ t. rw t) (λ t. rw (t, le-leb _ _ (h (eqb-false _ _ t))))

pub sound-at : (rs : List Record) (p : ℕ) → sound_records rs ≡ true → p < length rs → sound_record (get_or rs p empty) ≡ true
sound-at [] p s h = absurd (not-suc-le-zero h)
sound-at (r ∷ rs) zero s h = sound-head r rs s
sound-at (r ∷ rs) (suc p) s h = sound-at rs p (sound-tail r rs s) (le_of_suc-le-suc h)

alone-same : (n : ℕ) (rs : List Record) (p : ℕ) (r : Record) → r.number ≡ (get_or rs p empty).number → alone n rs ≡ true → alone n (set rs p r) ≡ true
unfolding alone
alone-same n rs p r e f = rw (place_same n rs p r e, length-set rs p r) f

pub sound-same : (rs : List Record) (p : ℕ) (r : Record) → sound_records rs ≡ true → sound_record r ≡ true → r.number ≡ (get_or rs p empty).number → sound_records (set rs p r) ≡ true
sound-same [] p r s f e = s
sound-same (x ∷ rs) zero r s f e = sound_cons r rs f (rw e (sound-alone x rs s)) (sound-tail x rs s)
sound-same (x ∷ rs) (suc p) r s f e =
    sound_cons x (set rs p r) (sound-head x rs s) (alone-same x.number rs p r e (sound-alone x rs s)) (sound-same rs p r (sound-tail x rs s) f e)

-- a record whose number, if it is not 0, is not there yet
pub sound_other : (rs : List Record) (p : ℕ) (r : Record) → sound_records rs ≡ true → sound_record r ≡ true
    → ((r.number ≡ 0 → ⊥) → length rs ≤ place r.number rs) → sound_records (set rs p r) ≡ true
sound_other [] p r s f a = s
sound_other (x ∷ rs) zero r s f a = sound_cons r rs f (absent-alone r.number rs (λ z. (absent-tail r.number x rs (a z)).1)) (sound-tail x rs s)
sound_other (x ∷ rs) (suc p) r s f a =
    sound_cons x (set rs p r) (sound-head x rs s)
    (absent-alone x.number (set rs p r)
    (λ z. absent-set x.number rs p r (alone-absent x.number rs (sound-alone x rs s) z)
    (λ e. (absent-tail r.number x rs (a (λ y. z (sym e ∙ y)))).0 (sym e))))
    (sound_other rs p r (sound-tail x rs s) f (λ z. (absent-tail r.number x rs (a z)).1))

-- where a number stood, no other place has it
pub gone : (n : ℕ) (rs : List Record) (r : Record) → sound_records rs ≡ true → (n ≡ 0 → ⊥) → (r.number ≡ n → ⊥)
    → length (set rs (place n rs) r) ≤ place n (set rs (place n rs) r)
unfolding place
gone n [] r s z e = omega arith
gone n (x ∷ rs) r s z e =
    split (eqb x.number n)
    (λ t. rw t (absent_cons n r rs e (rw (eqb-true x.number n t) at (alone-absent x.number rs (sound-alone x rs s) (λ y. z (sym (eqb-true x.number n t) ∙ y))))))
    (λ t. rw t (absent_cons n x (set rs (place n rs) r) (eqb-false _ _ t) (gone n rs r (sound-tail x rs s) z e)))

all-zero : (a b c d e f : ℕ) → a ≡ 0 → b ≡ 0 → c ≡ 0 → d ≡ 0 → e ≡ 0 → f ≡ 0
    → ◌≡◌ {A = Record} (record { number = a; kind = b; state = c; declared = d; received = e; due = f }) empty
all-zero a b c d e f p q r s t u = rw (p, q, r, s, t, u)

-- "empty places are all 0"
pub zero-empty : (r : Record) → sound_record r ≡ true → r.number ≡ 0 → r ≡ empty
unfolding sound_record else_zero
zero-empty r s z =
    let a = eqb r.kind 0 in
    let b = eqb r.state 0 in
    let c = eqb r.declared 0 in
    let d = eqb r.received 0 in
    let e = eqb r.due 0 in
    let h : a && b && c && d && e ≡ true = rw (eq-eqb _ _ z) at s in
    let h4 = and_left (a && b && c && d) e h in
    let h3 = and_left (a && b && c) d h4 in
    let h2 = and_left (a && b) c h3 in
    all-zero r.number r.kind r.state r.declared r.received r.due z
    (eqb-true _ _ (and_left a b h2))
    (eqb-true _ _ (and_right a b h2))
    (eqb-true _ _ (and_right (a && b) c h3))
    (eqb-true _ _ (and_right (a && b && c) d h4))
    (eqb-true _ _ (and_right (a && b && c && d) e h))

pub blank : (rs : List Record) → sound_records rs ≡ true → at 0 rs ≡ empty
unfolding place
blank [] s = refl
blank (r ∷ rs) s =
    split (eqb r.number 0)
    (λ t. rw t (zero-empty r (sound-head r rs s) (eqb-true _ _ t)))
    (λ t. rw t (blank rs (sound-tail r rs s)))

pub empty-sound : sound_record empty ≡ true
unfolding sound_record else_zero
empty-sound = refl

-- the record of an operation
pub used-at : (rs : List Record) → sound_records rs ≡ true → (n : ℕ) → (n ≡ 0 → ⊥) → place n rs < length rs → Used (at n rs)
used-at rs s n z h = sound-used (at n rs) (sound-at rs (place n rs) s h) (λ e. z (sym (place-number n rs h) ∙ e))

-- what the soundness of a desk is made of, and that it asks nothing else where a record is replaced
pub sound_records_lem : (d : Desk) → sound d ≡ true → sound_records d.records ≡ true
unfolding sound
sound_records_lem d s = s

pub sound-put : (d : Desk) (p : ℕ) (r : Record) → sound d ≡ true → sound_records (set d.records p r) ≡ true → sound (put d p r) ≡ true
unfolding sound
sound-put d p r s h = h
