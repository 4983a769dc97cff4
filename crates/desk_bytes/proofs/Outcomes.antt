-- One outcome: what two runs of decode, or of encode, may answer and leave, each by its contract, is the same in every part.
-- Assumes nothing.
use mathlib.Core.Path.{◌≡◌, sym, ap, ◌∙◌}
use mathlib.Core.Bool.{Bool, cond}
use mathlib.Core.List.{List}
use Rattle.std.specs.Prelude.{Option}
use Prim.Native.Nat.{ℕ}
use Rattle.desk.specs.declared.Desk.{Desk}
use Rattle.desk_bytes.specs.Bytes.{encode, decode}
use Rattle.desk_bytes.specs.Coded.{Encoded}

pub decoded_once : (s : List ℕ) (r r₂ : Option Desk) → r ≡ decode s → r₂ ≡ decode s → r ≡ r₂
decoded_once s r r₂ a b = a ∙ sym b

pub encoded_once : (d : Desk) (out : List ℕ) (r r₂ : Bool) (after after₂ : List ℕ) → Encoded d out r after → Encoded d out r₂ after₂ → (r ≡ r₂) × (after ≡ after₂)
encoded_once d out r r₂ after after₂ a b =
    let e = a.good ∙ sym b.good in
    (e, a.left ∙ ap (λ (x : Bool). cond x (encode d) out) e ∙ sym b.left)
