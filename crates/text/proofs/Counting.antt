-- The count of members in `run` never runs out: each member takes a byte, so that what is left of the text is count enough, and any more changes nothing.
-- Assumes nothing.
--   run-enough      two counts of which each is at least what is left of the text give one answer
--   inside-enough   so the text's length, which `inside_of` counts from, is as good as any more
use mathlib.Core.Path.{◌≡◌, refl, ap}
use mathlib.Core.List.{List, [], ◌∷◌}
use mathlib.Core.Bool.{Bool, true, false}
use Prim.Native.Nat.{ℕ, zero, suc, ◌+◌, ◌≤◌}
use native.Mathlib.Omega.{arith}
use lib.ListN.{length}
use Rattle.paper.specs.Refusals.{bad_text}
use Rattle.paper.specs.Checks.{choose, Judged, refused, good, after}
use Rattle.payload.specs.Tree.{Tuples, none}
use Rattle.payload.specs.declared.Shape.{Shape}
use Rattle.payload.specs.declared.Shape.TheVariants.{Set, Array}
use Rattle.payload.specs.Reading.{Single, number_for, before}
use Rattle.text.specs.Writing.{parted_at, name_at, key_at, value_at, member_at, run, inside_of}
use Rattle.text.specs.Spots.{Frame, holding, part_due, member_of}
use Rattle.text.proofs.Moving.{stands, advance, Comes, later}
use Rattle.text.proofs.Leading.{Leads, comma-takes, no_token, member_leads, inside_leads}

module _ (d s : List ℕ) (room : ℕ) (g : Shape) (row : ℕ) where
  abbrev member : ℕ → List ℕ → ℕ → Judged Single
  member i seen p = member_at d s (inside_of d s room) g row i seen p

  abbrev counted : ℕ → ℕ → List ℕ → ℕ → Judged Tuples
  counted k i seen p = run d s (member_at d s (inside_of d s room)) g row k i seen p

  member-on : (i : ℕ) (seen : List ℕ) (p e l : ℕ) (x : Single) → member i seen p ≡ good e l x → p ≤ e
  unfolding Leads
  member-on i seen p e l x m =
      let f : Frame = record { shape = g; row = row; room = room; index = i; seen = seen } in
      let c : Comes d s (advance d s (stands (member_of g f []) p)) (stands (part_due (holding (number_for x) f) []) e) = rw m at (member_leads d s f [] (inside_leads d s room) g p) in
      later d s (member_of g f []) (part_due (holding (number_for x) f) []) p e c

  rest-alike : (i : ℕ) (seen : List ℕ) (k k' q : ℕ) (x : Single) (more : Bool) → (more ≡ true → counted k (suc i) (number_for x ∷ seen) q ≡ counted k' (suc i) (number_for x ∷ seen) q)
      → (choose more (λ _. after (counted k (suc i) (number_for x ∷ seen) q) λ z _ t. good z 0 (before x t)) λ _. good q 0 (before x none))
      ≡ (choose more (λ _. after (counted k' (suc i) (number_for x ∷ seen) q) λ z _ t. good z 0 (before x t)) λ _. good q 0 (before x none))
  rest-alike i seen k k' q x true H = ap (λ (r : Judged Tuples). after r λ z _ t. good z 0 (before x t)) (H refl)
  rest-alike i seen k k' q x false H = refl

after-alike : {A B : Type 0} (r : Judged A) (f h : ℕ → ℕ → A → Judged B) → ((q l : ℕ) (x : A) → r ≡ good q l x → f q l x ≡ h q l x) → after r f ≡ after r h
after-alike (refused k w) f h H = refl
after-alike (good q l x) f h H = H q l x refl

module _ (d s : List ℕ) (room : ℕ) where
  member-spent : (g : Shape) (row i : ℕ) (seen : List ℕ) (p : ℕ) → length s ≤ p → member_at d s (inside_of d s room) g row i seen p ≡ refused bad_text (length s)
  unfolding member_at key_at name_at value_at
  member-spent Set row i seen p h = rw (no_token d s p h)
  member-spent Array row i seen p h = rw (no_token d s p h)

  pub run-enough : (g : Shape) (row k k' i : ℕ) (seen : List ℕ) (p : ℕ) → length s ≤ p + k → length s ≤ p + k' → run d s (member_at d s (inside_of d s room)) g row k i seen p ≡ run d s (member_at d s (inside_of d s room)) g row k' i seen p
  unfolding run
  run-enough g row zero zero i seen p h h' = refl
  run-enough g row zero (suc k') i seen p h h' = rw (member-spent g row i seen p (omega arith))
  run-enough g row (suc k) zero i seen p h h' = rw (member-spent g row i seen p (omega arith))
  run-enough g row (suc k) (suc k') i seen p h h' =
      after-alike (member_at d s (inside_of d s room) g row i seen p) _ _ λ e l x m.
      after-alike (parted_at s g e) _ _ λ q j more t.
      rest-alike d s room g row i seen k k' q x more λ z.
      let a = member-on d s room g row i seen p e l x m in
      let b = comma-takes d s g e q j (rw z at t) in
      run-enough g row k k' (suc i) (number_for x ∷ seen) q (omega arith) (omega arith)

  pub inside-enough : (g : Shape) (row p k : ℕ) → length s ≤ k → run d s (member_at d s (inside_of d s room)) g row (length s) 0 [] p ≡ run d s (member_at d s (inside_of d s room)) g row k 0 [] p
  inside-enough g row p k h = run-enough g row (length s) k 0 [] p (omega arith) (omega arith)
