-- Inside the code's contracts alone: nobody needs to believe this page.
-- The parts of a tuple that are written before its V's own bytes.
--   front n f v    S, F and L of a tuple whose V has v bytes
--   opening n g v c  a group's tuple up to its c members
use Rattle.std.specs.Prelude.{ℕ, ◌*◌, List, ◌∷◌, ◌++◌}
use Rattle.numbers.specs.Number.{number_of}
use Rattle.payload.specs.Tree.{shape_format}
use Rattle.payload.specs.declared.Shape.{Shape}
use Rattle.text.specs.Shortest.{form_byte}

unfoldable pub front : ℕ → ℕ → ℕ → List ℕ
front n f v = number_of (2 * n) ++ (form_byte f ∷ number_of v)

unfoldable pub opening : ℕ → Shape → ℕ → ℕ → List ℕ
opening n g v c = front n (shape_format g) v ++ number_of c
