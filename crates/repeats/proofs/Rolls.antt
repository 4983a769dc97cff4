-- A roll is true to the numbers seen: at the start, and after a known child that is new has been given.
-- Assumes nothing.
--   keep-start   no bit is set and no number is seen
--   keep-set     a set's child given; its bit was 0 exactly when its number was not seen: bit-fresh
--   keep_array   in an array nothing is given
use Prim.Native.Nat.{ℕ}
use mathlib.Core.Path.{◌≡◌, refl, sym, ap, ◌∙◌}
use mathlib.Core.List.{List, [], ◌∷◌}
use mathlib.Core.Bool.{Bool, true, false, ◌||◌}
use lib.Dec.{eqb}
use borrow.Author.Tests.{eqb-true, eqb-false}
use Rattle.paper.specs.Tests.{among}
use Rattle.std.specs.Prelude.{Some}
use Rattle.dictionary.specs.Formats.{set_form}
use Rattle.dictionary.specs.Rows.{kind, number_in}
use Rattle.dictionary.specs.Children.{child_numbered}
use Rattle.dictionary.proofs.Laws.{number-own}
use Rattle.repeats.specs.Roll.{marked, Blank, Gave, Roll, Kept}

module _ (d : List ℕ) (row : ℕ) where
  pub keep-start : (bits : List ℕ) → Blank bits → Kept d row [] bits
  unfolding among
  keep-start bits b = record { of_set = λ _. record { told = λ m c e. b.none c } }

  pub roll-more : (seen bits bits' : List ℕ) (n c : ℕ) → Roll d row seen bits → child_numbered d row n ≡ Some c → Gave bits c bits' → Roll d row (n ∷ seen) bits'
  unfolding among
  roll-more seen bits bits' n c k e g = record { told = λ m b f. go m b f (eqb n m) refl }
    where
      go : (m b : ℕ) → child_numbered d row m ≡ Some b → (t : Bool) → eqb n m ≡ t → marked bits' b ≡ t || among m seen
      go m b f true h =
          let same : Some b ≡ Some c = sym f ∙ ap (child_numbered d row) (sym (eqb-true n m h)) ∙ e in
          let z : b ≡ c = cc in
          ap (marked bits') z ∙ g.own
      go m b f false h =
          g.others b (λ z. eqb-false n m h (sym (number-own d row n c e) ∙ ap (number_in d) (sym z) ∙ number-own d row m b f)) ∙ k.told m b f

  pub keep-set : (seen bits bits' : List ℕ) (n c : ℕ) → Kept d row seen bits → child_numbered d row n ≡ Some c → Gave bits c bits' → Kept d row (n ∷ seen) bits'
  keep-set seen bits bits' n c k e g = record { of_set = λ h. roll-more seen bits bits' n c (k.of_set h) e g }

  pub keep_array : (seen bits : List ℕ) (n : ℕ) → Kept d row seen bits → (kind d row ≡ set_form → ⊥) → Kept d row (n ∷ seen) bits
  keep_array seen bits n k h = record { of_set = λ e. absurd (h e) }

  pub bit-fresh : (seen bits : List ℕ) (n c : ℕ) → Kept d row seen bits → kind d row ≡ set_form → child_numbered d row n ≡ Some c → marked bits c ≡ among n seen
  bit-fresh seen bits n c k h e = (k.of_set h).told n c e
