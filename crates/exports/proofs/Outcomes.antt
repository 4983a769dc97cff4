-- One outcome: what two runs of an exported function may leave, each by its contract, is the same in every part.
-- Assumes nothing.
--   exported_once    of the reader's and the writer's entry: number, buffer and told row
use Prim.Native.Nat.{ℕ}
use mathlib.Core.Path.{◌≡◌, sym, ◌∙◌}
use mathlib.Core.List.{List}
use Rattle.payload.specs.Reading.{Outcome}
use Rattle.exports.specs.Exported.{Exported}

pub exported_once : (o : Outcome) (old row : List ℕ) (r r₂ : ℕ) (new new₂ row' row₂ : List ℕ) → Exported o old row r new row' → Exported o old row r₂ new₂ row₂ → (r ≡ r₂) × (new ≡ new₂) × (row' ≡ row₂)
exported_once o old row r r₂ new new₂ row' row₂ a b =
    (a.number ∙ sym b.number, a.contents ∙ sym b.contents, a.told ∙ sym b.told)
