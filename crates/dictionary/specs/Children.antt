-- A row's children, as the crates above ask for them. A child is known by its number or by its name, never by where it stands.
--   child_numbered d r n   the child of row r with the sequence number n
--   child_named d r t      the child of row r with the name t
use Rattle.std.specs.Prelude.{ℕ, zero, suc, List, Bool, eqb, Option, Some, None}
use Rattle.paper.specs.Checks.{choose}
use Rattle.paper.specs.Tests.{same}
use Rattle.dictionary.specs.Rows.{number_in, child_count, first_child, name}

-- the first of k rows, from c on, that passes the test
unfoldable pub seek : ℕ → ℕ → (ℕ → Bool) → Option ℕ
seek zero c test = None
seek (suc k) c test = choose (test c) (λ _. Some c) (λ _. seek k (suc c) test)

abbrev pub has_number : List ℕ → ℕ → ℕ → Bool
has_number d n c = eqb (number_in d c) n

abbrev pub has_name : List ℕ → List ℕ → ℕ → Bool
has_name d t c = same (name d c) t

unfoldable pub child_numbered : List ℕ → ℕ → ℕ → Option ℕ
child_numbered d r n = seek (child_count d r) (first_child d r) (has_number d n)

unfoldable pub child_named : List ℕ → ℕ → List ℕ → Option ℕ
child_named d r t = seek (child_count d r) (first_child d r) (has_name d t)
