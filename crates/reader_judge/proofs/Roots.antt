-- The root: what each return of `root_at` has to show.
-- Assumes nothing.
use Prim.Native.Nat.{ℕ, ◌+◌, ◌-◌, ◌≤◌}
use mathlib.Core.Path.{◌≡◌, refl, sym, ap, ◌∙◌}
use mathlib.Core.List.{List, [], ◌∷◌}
use mathlib.Core.Bool.{Bool, true, false}
use native.Mathlib.Omega.{arith}
use lib.ListN.{length, get_or, length-append}
use lib.Dec.{eqb}
use borrow.Author.Tests.{eq-eqb, ne_eqb}
use mir.Syntax.{w8}
use mir.Val.{Fits}
use Rattle.paper.specs.Limits.{payload_least, depth_most}
use Rattle.paper.specs.Refusals.{not_known, misfit, after_root}
use Rattle.paper.specs.declared.Refusal.{Refusal}
use Rattle.paper.specs.Refusal.{number_of}
use Rattle.reader_fields.specs.declared.Extent.{Extent}
use Rattle.paper.specs.Checks.{choose, Judged, refused, good, need, after}
use Rattle.numbers.specs.Number.{Found}
use Rattle.numbers.specs.Number as found
use Rattle.numbers.proofs.Places.{bytes-known}
use Rattle.dictionary.specs.Formats.{set_form}
use Rattle.dictionary.proofs.Laws.{accepted_header}
use Rattle.payload.specs.Checked.{Checked}
use Rattle.payload.specs.Checked as checked
use Rattle.payload.specs.Tree.{Tuples}
use Rattle.payload.specs.declared.Shape.TheVariants.{Set}
use Rattle.payload.specs.Text.{closes, text_of, root_text, root_count}
use Rattle.payload.specs.Reading.{inside_of, root_at, tree_of}
use Rattle.payload.proofs.Asked.{root-asked}
use Rattle.payload.proofs.Steps.{tree-at}
use Rattle.payload.proofs.Sound.{inside-sound}
use Rattle.reader_fields.specs.Fields.{sequence_at, format_at, extent_at, sequenced, formed, extended}
use Rattle.reader_fields.proofs.Fielding.{Fielded, asked-steps}
use Rattle.reader_members.specs.Met.{Site}
use Rattle.reader_judge.specs.Met.{Refused, Good, InsideMet, root_part, root_in, RootMet, RootGround, tree_told, tree_verdict}
use Rattle.reader_judge.proofs.Insides.{FoundInside, inside_found, inside-refused}

module _ (d s : List ℕ) (budget : ℕ) where
  -- what follows S in the root
  abbrev Rootings : ℕ → ℕ → Judged Tuples
  Rootings n p = need (eqb n 0) not_known payload_least λ _. Fielded s payload_least (length s) (λ f. eqb f set_form) (λ f q z. inside_of d s depth_most 0 payload_least q z (budget - 1)) p

  root-steps : root_at d s budget ≡ sequenced (sequence_at s payload_least (length s) budget) payload_least Rootings
  root-steps =
      root-asked d s budget
      ∙ asked-steps s payload_least (length s) (λ n. eqb n 0) (λ n. true) (λ n f. eqb f set_form) (λ n f q z. inside_of d s depth_most 0 payload_least q z (budget - 1)) budget

-- F, its fit and L of the root, in one answer
root-part : {A : Type 0} (s : List ℕ) (at p e : ℕ) (go : ℕ → ℕ → Judged A) → Fielded s at e (λ f. eqb f set_form) (λ f. go) p ≡ extended (root_part s p e (format_at s p e)) at go
root-part {A} s at p e go = by (format_at s p e)
  where
    fit : (t : Bool) (x : Found) → need t misfit at (λ _. extended x at go) ≡ extended (choose t (λ _. x) (λ _. found.Refused misfit)) at go
    fit true x = refl
    fit false x = refl

    by : (F : Checked) → formed F at (λ f. need (eqb f set_form) misfit at λ _. extended (extent_at s (p + 1) e) at go) ≡ extended (root_part s p e F) at go
    by (checked.Refused k) = refl
    by (checked.Good f) = fit (eqb f set_form) (extent_at s (p + 1) e)

-- S, F, its fit and L of the root, in one answer
root-value : {A : Type 0} (s : List ℕ) (at e : ℕ) (go : ℕ → ℕ → Judged A) (S : Found) → e ≡ length s → sequenced S at (λ n p. need (eqb n 0) not_known at λ _. Fielded s at e (λ f. eqb f set_form) (λ f. go) p) ≡ extended (root_in s S) at go
root-value {A} s at e go S z = rw z (by S)
  where
    fit : (t : Bool) (p : ℕ) → need t not_known at (λ _. Fielded s at (length s) (λ f. eqb f set_form) (λ f. go) p) ≡ extended (choose t (λ _. root_part s p (length s) (format_at s p (length s))) (λ _. found.Refused not_known)) at go
    fit true p = root-part s at p (length s) go
    fit false p = refl

    by : (S : Found) → sequenced S at (λ n p. need (eqb n 0) not_known at λ _. Fielded s at (length s) (λ f. eqb f set_form) (λ f. go) p) ≡ extended (root_in s S) at go
    by (found.Refused k) = refl
    by (found.Value n p) = fit (eqb n 0) p

module _ (d s : List ℕ) (budget : ℕ) where
  abbrev ending : Judged Tuples → Judged Tuples
  ending x = after x λ z l t. need (eqb z (length s)) after_root z λ _. good z l t

  whole : (x : Judged Tuples) → root_at d s budget ≡ x → tree_of d s budget ≡ ending x
  whole x e = tree-at d s budget ∙ ap ending e

  refusing : (k w : ℕ) → root_at d s budget ≡ refused k w → Refused k w ≡ tree_verdict d s budget
  refusing k w e = sym (ap (tree_told d) (whole (refused k w) e))

  begun : (E : Found) → RootMet s budget E → root_at d s budget ≡ extended E payload_least (λ q z. inside_of d s depth_most 0 payload_least q z (budget - 1))
  begun E m =
      root-steps d s budget
      ∙ root-value s payload_least (length s) (λ q z. inside_of d s depth_most 0 payload_least q z (budget - 1)) (sequence_at s payload_least (length s) budget) refl
      ∙ ap (λ (x : Found). extended x payload_least (λ q z. inside_of d s depth_most 0 payload_least q z (budget - 1))) (sym m.same)

  pub root-field : (k : Refusal) → RootMet s budget (found.Refused (number_of k)) → Refused (number_of k) payload_least ≡ tree_verdict d s budget
  root-field k m = refusing (number_of k) payload_least (begun (found.Refused (number_of k)) m)

  module _ (V : Extent) (m : RootMet s budget (found.Value V.from V.to)) where
    pub root-site : RootGround d s → Site d s 0 V.to
    root-site w =
        let h = accepted_header d w.accepted in
        record {
          holder = record { accepted = w.accepted; inside = omega (arith, h.some); holds = omega (arith, h.root) };
          within = m.placed.2;
          few = w.few;
        }

    pub root-inner : {k w : ℕ} → InsideMet d s depth_most 0 payload_least V.from V.to (budget - 1) (Refused k w) → Refused k w ≡ tree_verdict d s budget
    root-inner {k} {w} o = refusing k w (begun (found.Value V.from V.to) m ∙ inside-refused d s depth_most 0 payload_least V.from V.to (budget - 1) k w o)

    module _ (l t : ℕ) (o : InsideMet d s depth_most 0 payload_least V.from V.to (budget - 1) (Good l t)) where
      inner : FoundInside d s depth_most 0 payload_least V.from V.to (budget - 1) l t
      inner = inside_found d s depth_most 0 payload_least V.from V.to (budget - 1) l t o

      rooted : root_at d s budget ≡ good V.to l inner.kids
      rooted = begun (found.Value V.from V.to) m ∙ inner.found

      ended : (b : Bool) → eqb V.to (length s) ≡ b → tree_of d s budget ≡ need b after_root V.to (λ _. good V.to l inner.kids)
      ended b v = whole (good V.to l inner.kids) rooted ∙ ap (λ (b : Bool). need b after_root V.to (λ _. good V.to l inner.kids)) v

      pub root-after : (V.to ≡ length s → ⊥) → Refused after_root V.to ≡ tree_verdict d s budget
      root-after v = sym (ap (tree_told d) (ended false (ne_eqb V.to (length s) v)))

      module _ (k : (i : ℕ) → Fits w8 (get_or s i 0)) where
        spent : root_count d inner.kids + l ≡ budget
        spent =
            let u = inside-sound d s (bytes-known s k) depth_most 0 payload_least V.from V.to (budget - 1) V.to l inner.kids m.placed.2 inner.found in
            omega (arith, u.1.spent, m.placed.0)

        pub root-left : l ≤ budget
        root-left = omega (arith, spent)

        pub root-good : V.to ≡ length s → Good (budget - l) (t + 2) ≡ tree_verdict d s budget
        root-good v =
            let c : budget - l ≡ root_count d inner.kids = omega (arith, spent) in
            let b : t + 2 ≡ length (root_text d inner.kids) = omega (arith, inner.measures, length-append (text_of d inner.kids 0 0) (closes Set ∷ [])) in
            sym (ap (tree_told d) (ended true (eq-eqb V.to (length s) v)) ∙ rw (← c, ← b))
