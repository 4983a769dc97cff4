-- The desk's tables for a caller that keeps a desk as bytes: over bytes that spell a desk, 20 to 27 are given exactly when their line holds of that desk, and 0
-- exactly when the call is taken. Over bytes of another length it is 20 (Lending's `served_other_length`).
-- Assumes that the bytes spell the desk d.
use Prim.Native.Nat.{ℕ}
use mathlib.Core.Path.{◌≡◌, sym, ap, ◌∙◌}
use mathlib.Core.Logic.{◌↔◌}
use mathlib.Core.List.{List}
use Rattle.std.specs.Prelude.{Option, Some}
use lib.ListN.{length}
use Rattle.paper.specs.Limits.{desk_most}
use Rattle.paper.specs.Refusals.{accepted}
use Rattle.desk.specs.declared.Desk.{Desk}
use Rattle.desk.specs.Calls.{listed}
use Rattle.desk_laws.specs.State.{Call, number_in, make}
use Rattle.desk_laws.specs.Refusing.{Line, Takes, ListLine}
use Rattle.desk_laws.proofs.Putting.{kept}
use Rattle.desk_laws.proofs.Refusing.{given, accepted_exactly, list-given}
use Rattle.desk_bytes.specs.Bytes.{decode}
use Rattle.desk_bytes.proofs.Codec.{decode-some, records_counted}
use Rattle.desk_calls.specs.Served.{served_by, served, listed_by, served_list}

module _ (bs : List ℕ) (d : Desk) (e : decode bs ≡ Some d) where
  eight : length d.records ≡ desk_most
  eight = ap (λ (x : Desk). length x.records) (sym (decode-some bs d e).1) ∙ records_counted desk_most bs

  module _ (c : Call) (st : List ℕ) where
    served-number : (served c bs st).number ≡ number_in (make c (kept d st)).answer
    unfolding served
    served-number = ap (λ (o : Option Desk). (served_by c bs st o).number) e

    pub served-given : (k : ℕ) → (k ≡ accepted → ⊥) → ((served c bs st).number ≡ k) ↔ Line c.asked c.named (kept d st) k
    served-given k z =
        let g = given c (kept d st) eight k z in
        (λ h. g.0 (sym served-number ∙ h), λ x. served-number ∙ g.1 x)

    pub served-accepted : ((served c bs st).number ≡ accepted) ↔ Takes c.asked c.named (kept d st) (make c (kept d st))
    served-accepted =
        let g = accepted_exactly c (kept d st) eight in
        (λ h. g.0 (sym served-number ∙ h), λ x. served-number ∙ g.1 x)

  list-number : (served_list bs).number ≡ (listed d).number
  unfolding served_list
  list-number = ap (λ (o : Option Desk). (listed_by bs o).number) e

  pub list-served : (k : ℕ) → ((served_list bs).number ≡ k) ↔ ListLine d k
  list-served k = let g = list-given d k in (λ h. g.0 (sym list-number ∙ h), λ x. list-number ∙ g.1 x)
