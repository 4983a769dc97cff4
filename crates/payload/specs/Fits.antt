-- When a tree fits a dictionary, a row and a depth (document 01, "The payload"). The tests are those that the answers use; here nothing is said of their order.
--   GroupRow d row           a row of an accepted dictionary that is a set or an array
--   known, fresh, child      of a tuple in the value of a row: its number is known there, not given before, and its row
--   fits, allowed            a format fits a row; a scalar's value is one of the row's
--   Fits d t row i seen      the run t fits the value of the row, from position i on and after the numbers seen
use Rattle.std.specs.Prelude.{ℕ, suc, ◌<◌, ◌≡◌, List, [], ◌∷◌, Bool, true, false, not, eqb, Option, Some, None}
use Rattle.paper.specs.Checks.{choose}
use Rattle.paper.specs.Tests.{among}
use Rattle.dictionary.specs.Formats.{set_form, null_form}
use Rattle.dictionary.specs.Rows.{entries, kind, nullable, first_child}
use Rattle.dictionary.specs.Accepts.{accepts}
use Rattle.dictionary.specs.Children.{child_numbered}
use Rattle.payload.specs.Tree.{Scalar, null, integer, option, string, boolean, Tuples, none, scalar, inner, format_of, shape_format}

abbrev pub found : Option ℕ → Bool
found (Some c) = true
found None = false

abbrev pub row_of : Option ℕ → ℕ
row_of (Some c) = c
row_of None = 0

pub record GroupRow (d : List ℕ) (row : ℕ) : Type 0 where
  pub accepted : accepts d ≡ true
  pub inside : row < entries d
  pub holds : kind d row < 2

abbrev pub is_set : List ℕ → ℕ → Bool
is_set d row = eqb (kind d row) set_form

-- a set knows its children by number; "An array's tuples carry their index from 0; all use the one child."
unfoldable pub known : List ℕ → ℕ → ℕ → ℕ → Bool
known d row i n = choose (is_set d row) (λ _. found (child_numbered d row n)) (λ _. eqb n i)

unfoldable pub child : List ℕ → ℕ → ℕ → ℕ
child d row n = choose (is_set d row) (λ _. row_of (child_numbered d row n)) (λ _. first_child d row)

-- "A set's may come in any order, none twice (house)."
unfoldable pub fresh : List ℕ → ℕ → List ℕ → ℕ → Bool
fresh d row seen n = choose (is_set d row) (λ _. not (among n seen)) (λ _. true)

-- "Null .. fits any row with the nullable bit, and no other. Any other format fits rows of its own only."
unfoldable pub fits : List ℕ → ℕ → ℕ → Bool
fits d row f = choose (eqb f null_form) (λ _. nullable d row) (λ _. eqb f (kind d row))

-- an enum's option is one of the row's children
abbrev pub allowed : List ℕ → ℕ → Scalar → Bool
allowed d row null = true
allowed d row (integer i) = true
allowed d row (option n) = found (child_numbered d row n)
allowed d row (string t) = true
allowed d row (boolean b) = true

module _ (d : List ℕ) where
  -- a tuple's own place in the value of a row
  pub record Sits (row i : ℕ) (seen : List ℕ) (n f : ℕ) : Type 0 where
    pub is_known : known d row i n ≡ true
    pub is_fresh : fresh d row seen n ≡ true
    pub does_fit : fits d (child d row n) f ≡ true

  unfoldable pub Fits : Tuples → ℕ → ℕ → List ℕ → Type 0
  Fits none row i seen = Unit {0}
  Fits (scalar n x rest) row i seen =
      Sits row i seen n (format_of x) × (allowed d (child d row n) x ≡ true) × Fits rest row (suc i) (n ∷ seen)
  Fits (inner n g kids rest) row i seen =
      Sits row i seen n (shape_format g) × Fits kids (child d row n) 0 [] × Fits rest row (suc i) (n ∷ seen)
