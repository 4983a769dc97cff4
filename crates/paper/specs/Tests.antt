-- Tests over ranges and lists.
--   all k P    P holds of 0, 1, .. k - 1
--   same a b   two lists of bytes are equal
--   among n l  the number n stands in the list l
--   Passing    a loop that tests 0, 1, .. n - 1 has come to i, and all before it passed
use Rattle.std.specs.Prelude.{ℕ, zero, suc, ◌≤◌, ◌≡◌, List, [], ◌∷◌, Bool, true, false, ◌&&◌, ◌||◌, eqb}

unfoldable pub all : ℕ → (ℕ → Bool) → Bool
all zero P = true
all (suc k) P = all k P && P k

unfoldable pub same : List ℕ → List ℕ → Bool
same [] [] = true
same [] (y ∷ b) = false
same (x ∷ a) [] = false
same (x ∷ a) (y ∷ b) = eqb x y && same a b

unfoldable pub among : ℕ → List ℕ → Bool
among n [] = false
among n (m ∷ l) = eqb m n || among n l

pub record Passing (P : ℕ → Bool) (n i : ℕ) : Type 0 where
  pub within : i ≤ n
  pub passed : all i P ≡ true
