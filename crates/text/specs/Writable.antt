-- When a text is written: it says what a payload says, the payload is written the shortest way, and dictionary, length and room are right. With no order of checks.
use Rattle.std.specs.Prelude.{ℕ, ◌≡◌, List}
use Rattle.text.specs.Spells.{Says}
use Rattle.text.specs.Shortest.{payload_of}
use Rattle.text.specs.Refusing.{Passed, Roomy}

-- as the payload b, in n tuples
pub record Writable (d s : List ℕ) (room : ℕ) (b : List ℕ) (n : ℕ) : Type 0 where
  pub passed : Passed d s
  pub says : Says d s b n
  pub shortest : payload_of says.tree ≡ b
  pub roomy : Roomy room b
