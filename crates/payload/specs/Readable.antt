-- When a payload is read: it means a text, and dictionary, length, budget and room are right. With no order of checks.
use Rattle.std.specs.Prelude.{ℕ, ◌≤◌, ◌≡◌, List, true}
use Rattle.dictionary.specs.Accepts.{accepts}
use Rattle.payload.specs.Text.{Means}
use Rattle.payload.specs.Refusing.{InTable, Roomy}

-- as the text t, in n tuples
pub record Readable (d s : List ℕ) (budget room : ℕ) (t : List ℕ) (n : ℕ) : Type 0 where
  pub accepting : accepts d ≡ true
  pub in_table : InTable s
  pub means : Means d s t n
  pub enough : n ≤ budget
  pub roomy : Roomy room t
