-- One outcome: what two runs of feed may answer and leave, each by its contract (`Fed`), is the same in every part. The desk's other functions answer an equation.
-- Assumes nothing.
use Prim.Native.Nat.{ℕ}
use mathlib.Core.Path.{◌≡◌, sym, ◌∙◌}
use mathlib.Core.List.{List}
use Rattle.desk.specs.declared.Desk.{Desk}
use Rattle.desk.specs.Calls.{Moved}
use Rattle.desk.specs.Calls.{Fed}

pub fed_once : (d : Desk) (store : List ℕ) (n : ℕ) (piece : List ℕ) (r r₂ : Moved) (after after₂ : List ℕ)
    → Fed d store n piece r after → Fed d store n piece r₂ after₂ → (r ≡ r₂) × (after ≡ after₂)
fed_once d store n piece r r₂ after after₂ a b = (a.moved ∙ sym b.moved, a.stored ∙ sym b.stored)
