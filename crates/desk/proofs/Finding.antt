-- The lowest place of a number, and whether a number stands alone, as the library's searches find them.
-- Assumes nothing.
use Rattle.std.proofs.Common.{◌≡◌, ℕ, suc, ◌<◌, ◌≤◌, Bool, true, not, cond, List, [], ◌∷◌, length, Some, None, refl, sym, ap, ◌∙◌, arith}
use lib.Dec.{eqb, leb, ltb}
use borrow.Author.Tests.{eq-eqb, ne_eqb, lt-leb, le-leb, leb-true, leb-false}
use Rattle.std.specs.List.{position, position_or_len, list_all}
use Rattle.std.proofs.lemmas.List.Recursion.{is_position_or_len}
use Rattle.paper.proofs.Tests.{split}
use Rattle.desk_records.specs.declared.Record.{Record}
use Rattle.desk.specs.Desk.{place, alone}

abbrev pub has_number : ℕ → Record → Bool
has_number n r = eqb r.number n

place-first : (n : ℕ) (rs : List Record) → place n rs ≡ position_or_len (has_number n) rs
unfolding place
place-first n rs = is_position_or_len (place n) (has_number n) refl (λ r rs. ap (cond (eqb r.number n) 0) (omega arith)) rs

pub place-is : (n : ℕ) (rs : List Record) → position (has_number n) rs ≡ cond (ltb (place n rs) (length rs)) (Some (place n rs)) None
place-is n rs = rw (place-first n rs) refl

-- two tests of which one passes where the other does
same_test : (a b c d : ℕ) → (a ≤ b → c ≤ d) → (b < a → d < c) → leb a b ≡ leb c d
same_test a b c d f g =
    split (leb a b)
    (λ t. t ∙ sym (le-leb _ _ (f (leb-true _ _ t))))
    (λ t. t ∙ sym (lt-leb _ _ (g (leb-false _ _ t))))

absent_all : (n : ℕ) (rs : List Record) → list_all (λ r. not (has_number n r)) rs ≡ leb (length rs) (place n rs)
unfolding place
absent_all n [] = sym (le-leb 0 0 (omega arith))
absent_all n (r ∷ rs) =
    split (eqb r.number n)
    (λ t. rw t (sym (lt-leb (suc (length rs)) 0 (omega arith))))
    (λ t. rw (t, absent_all n rs) (same_test (length rs) (place n rs) (suc (length rs)) (suc (place n rs)) (λ h. omega arith) (λ h. omega arith)))

module _ (n : ℕ) (rs : List Record) where
  pub alone-zero : n ≡ 0 → true ≡ alone n rs
  unfolding alone
  alone-zero z = rw (eq-eqb n 0 z) refl

  pub alone-all : (n ≡ 0 → ⊥) → (t : Bool) → t ≡ list_all (λ r. not (has_number n r)) rs → t ≡ alone n rs
  unfolding alone
  alone-all z t e = e ∙ absent_all n rs ∙ rw (ne_eqb n 0 z) refl
