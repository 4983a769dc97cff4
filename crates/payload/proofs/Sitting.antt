-- What the tests say that meaning and answers share, of a row of an accepted dictionary.
-- Assumes nothing.
--   In n seen                  n is one of the numbers seen; among_in: the test
--   known-set, known_array     which numbers are known in the value of a row; child-set, child_array: and their rows
--   fresh_set, fresh_array     none twice, in a set
--   known-found, known-index, child-found, fresh-among, label-set, label_array, fits-kind   the tests and a member's label, by the row's format
--   fits-null, fits-own        which formats fit a row
--   option-known               which options an enum's row allows; option_inside: the row of an allowed one is a row of the dictionary
--   holder                     a set or an array is a row with children
--   child-inside               the row of a known number is a row of the dictionary
use mathlib.Core.Path.{◌≡◌, refl, sym, ap, ◌∙◌}
use mathlib.Core.Logic.{◌↔◌, ◌⊎◌, inl, inr}
use mathlib.Core.List.{List, [], ◌∷◌, ◌++◌}
use mathlib.Core.Bool.{Bool, true, false, not, ◌||◌, true≢false}
use Prim.Native.Nat.{ℕ, ◌+◌, ◌<◌}
use native.Mathlib.Omega.{arith}
use lib.Dec.{ltb, eqb}
use borrow.Author.Tests.{ltb-true, ltb-false, eqb-true, eqb-false, eq-eqb, ne_eqb, not-true}
use Rattle.paper.specs.Tests.{among}
use Rattle.paper.proofs.Tests.{so_not, not_so}
use Rattle.std.specs.Prelude.{Option, Some, None}
use Rattle.dictionary.specs.Formats.{set_form, array_form, null_form, enum_form}
use Rattle.dictionary.specs.Rows.{entries, kind, nullable, first_child, child_count, name}
use Rattle.dictionary.specs.Accepts.{accepts}
use Rattle.dictionary.specs.Children.{child_numbered}
use Rattle.dictionary.specs.Given.{parent, Family}
use Rattle.dictionary.proofs.Laws.{number-known, number_unknown, number-child, accepted_family, accepted_array}
use Rattle.payload.specs.Tree.{option}
use Rattle.payload.specs.Fits.{found, row_of, known, child, fresh, fits, allowed}
use Rattle.payload.specs.Text.{quoted, colon, label}

abbrev pub In : ℕ → List ℕ → Type 0
In n [] = ⊥
In n (m ∷ seen) = (n ≡ m) ⊎ In n seen

pub among_in : (n : ℕ) (seen : List ℕ) → (among n seen ≡ true) ↔ In n seen
unfolding among
among_in n [] = (λ e. true≢false (sym e), λ h. absurd h)
among_in n (m ∷ seen) = (λ e. there (eqb m n) refl e (among_in n seen).0, λ h. back h (among_in n seen).1)
  where
    there : (t : Bool) → eqb m n ≡ t → t || among n seen ≡ true → (among n seen ≡ true → In n seen) → In n (m ∷ seen)
    there true f e g = inl (sym (eqb-true m n f))
    there false f e g = inr (g e)

    or-true : (t : Bool) → t || true ≡ true
    or-true true = refl
    or-true false = refl

    back : In n (m ∷ seen) → (In n seen → among n seen ≡ true) → eqb m n || among n seen ≡ true
    back (inl e) g = rw (eq-eqb m n (sym e))
    back (inr h) g = rw (g h) (or-true (eqb m n))

-- a child by number: found exactly where the number is below the count
module _ (d : List ℕ) (row : ℕ) (w : Family d row) (n : ℕ) where
  found_below : (found (child_numbered d row n) ≡ true) ↔ (n < child_count d row)
  found_below = (λ e. go (ltb n (child_count d row)) refl e, λ h. ap found (number-known d row n w h))
    where
      go : (t : Bool) → ltb n (child_count d row) ≡ t → found (child_numbered d row n) ≡ true → n < child_count d row
      go true f e = ltb-true n (child_count d row) f
      go false f e = absurd (true≢false (sym e ∙ ap found (number_unknown d row n w (ltb-false n (child_count d row) f))))

  pub option-known : (allowed d row (option n) ≡ true) ↔ (n < child_count d row)
  option-known = found_below

  pub option_inside : allowed d row (option n) ≡ true → row_of (child_numbered d row n) < entries d
  option_inside e = go (child_numbered d row n) refl e
    where
      go : (c : Option ℕ) → child_numbered d row n ≡ c → found c ≡ true → row_of c < entries d
      go (Some c) f e = (number-child d row n w c f).0
      go None f e = absurd (true≢false (sym e))

  module _ (k : kind d row ≡ set_form) where
    pub known-set : (i : ℕ) → (known d row i n ≡ true) ↔ (n < child_count d row)
    unfolding known
    known-set i = rw (eq-eqb (kind d row) set_form k) found_below

    pub child-set : n < child_count d row → child d row n ≡ first_child d row + n
    unfolding child
    child-set h = rw (eq-eqb (kind d row) set_form k, number-known d row n w h)

module _ (d : List ℕ) (row n : ℕ) where
  pub fresh_set : kind d row ≡ set_form → (seen : List ℕ) → (fresh d row seen n ≡ true) ↔ (In n seen → ⊥)
  unfolding fresh
  fresh_set k seen = rw (eq-eqb (kind d row) set_form k) (λ e h. so_not (among n seen) (not-true _ e) ((among_in n seen).1 h), λ f. ap not (not_so (among n seen) (λ e. f ((among_in n seen).0 e))))

  module _ (k : kind d row ≡ set_form → ⊥) where
    pub known_array : (i : ℕ) → (known d row i n ≡ true) ↔ (n ≡ i)
    unfolding known
    known_array i = rw (ne_eqb (kind d row) set_form k) (λ e. eqb-true n i e, λ e. eq-eqb n i e)

    pub child_array : child d row n ≡ first_child d row
    unfolding child
    child_array = rw (ne_eqb (kind d row) set_form k)

    pub fresh_array : (seen : List ℕ) → fresh d row seen n ≡ true
    unfolding fresh
    fresh_array seen = rw (ne_eqb (kind d row) set_form k)

-- the tests themselves, by the row's format
module _ (d : List ℕ) (row n : ℕ) where
  module _ (k : kind d row ≡ set_form) where
    pub known-found : (i : ℕ) → known d row i n ≡ found (child_numbered d row n)
    unfolding known
    known-found i = rw (eq-eqb (kind d row) set_form k)

    pub child-found : child d row n ≡ row_of (child_numbered d row n)
    unfolding child
    child-found = rw (eq-eqb (kind d row) set_form k)

    pub fresh-among : (seen : List ℕ) → fresh d row seen n ≡ not (among n seen)
    unfolding fresh
    fresh-among seen = rw (eq-eqb (kind d row) set_form k)

    pub label-set : label d row n ≡ quoted (name d (child d row n)) ++ (colon ∷ [])
    unfolding label
    label-set = rw (eq-eqb (kind d row) set_form k)

  module _ (k : kind d row ≡ set_form → ⊥) where
    pub known-index : (i : ℕ) → known d row i n ≡ eqb n i
    unfolding known
    known-index i = rw (ne_eqb (kind d row) set_form k)

    pub label_array : label d row n ≡ []
    unfolding label
    label_array = rw (ne_eqb (kind d row) set_form k)

pub fits-kind : (d : List ℕ) (row f : ℕ) → (f ≡ null_form → ⊥) → fits d row f ≡ eqb f (kind d row)
unfolding fits
fits-kind d row f h = rw (ne_eqb f null_form h)

pub fits-null : (d : List ℕ) (row : ℕ) → fits d row null_form ≡ nullable d row
unfolding fits
fits-null d row = refl

pub fits-own : (d : List ℕ) (row f : ℕ) → (f ≡ null_form → ⊥) → (fits d row f ≡ true) ↔ (f ≡ kind d row)
unfolding fits
fits-own d row f h = rw (ne_eqb f null_form h) (λ e. eqb-true f (kind d row) e, λ e. eq-eqb f (kind d row) e)

-- a set or an array has children
pub holder : (d : List ℕ) (row : ℕ) → kind d row < 2 → parent d row ≡ true
unfolding parent
holder d row h = go (eqb (kind d row) set_form) refl
  where
    array : (f : ℕ) → f < 2 → (f ≡ set_form → ⊥) → f ≡ array_form
    array f a b = omega arith

    go : (t : Bool) → eqb (kind d row) set_form ≡ t → t || eqb (kind d row) array_form || eqb (kind d row) enum_form ≡ true
    go true e = refl
    go false e = rw (eq-eqb (kind d row) array_form (array (kind d row) h (eqb-false (kind d row) set_form e)))

-- the rows that a payload can come to
module _ (d : List ℕ) (ok : accepts d ≡ true) (row : ℕ) (h : row < entries d) where
  pub child-inside : (i n : ℕ) → kind d row < 2 → known d row i n ≡ true → child d row n < entries d
  child-inside i n k e = go (eqb (kind d row) set_form) refl
    where
      family : Family d row
      family = accepted_family d ok row h (holder d row k)

      go : (t : Bool) → eqb (kind d row) set_form ≡ t → child d row n < entries d
      go true f =
          let z = eqb-true (kind d row) set_form f in
          rw (child-found d row n z) (option_inside d row family n (sym (known-found d row n z i) ∙ e))
      go false f =
          let z = eqb-false (kind d row) set_form f in
          let one : kind d row ≡ array_form = array (kind d row) k z in
          omega (arith, child_array d row n z, family.within, accepted_array d ok row h one)
        where
          array : (f : ℕ) → f < 2 → (f ≡ set_form → ⊥) → f ≡ array_form
          array f a b = omega arith
