-- What is accepted is exactly what means something: trees first, then the reader's whole answer.
-- Assumes nothing.
--   rooted_payload, payload_rooted   the first z bytes are a payload, and a root was read up to z: the same
--   tree_complete                    what a tree writes is answered with that tree
--   tree-sound                       what is answered with a tree is written by it
--   reads_exactly                    a text is given exactly when the payload means it, within the budget and the room
use mathlib.Core.Path.{◌≡◌, refl, sym, ap, ◌∙◌}
use mathlib.Core.Logic.{◌↔◌}
use mathlib.Core.List.{List, [], ◌++◌}
use mathlib.Core.Bool.{Bool, true, false, not, ◌||◌}
use Prim.Native.Nat.{ℕ, suc, ◌+◌, ◌-◌, ◌≤◌}
use native.Mathlib.Omega.{arith}
use lib.ListN.{length, take, drop, take-append-drop}
use lib.Seq.{take-length}
use lib.Dec.{ltb, eqb}
use borrow.Author.Tests.{ltb-false, le-ltb, eqb-true, eq-eqb, not-false}
use Rattle.paper.specs.Limits.{payload_least, payload_most, text_most, depth_most}
use Rattle.paper.specs.Checks.{choose, Judged, refused, good}
use Rattle.paper.proofs.Tests.{or_left, or_right}
use Rattle.paper.proofs.Checks.{same_place, same_left, same_thing, needed, followed}
use Rattle.numbers.specs.Bytes.{Bytes, byte}
use Rattle.numbers.proofs.Places.{bytes-at}
use Rattle.dictionary.specs.Accepts.{accepts}
use Rattle.payload.specs.Tree.{Tuples, depth}
use Rattle.payload.specs.Header.{header_with, header_agrees}
use Rattle.payload.specs.Writes.{Payload}
use Rattle.payload.specs.Fits.{Fits}
use Rattle.payload.specs.Text.{root_text, root_count, Means}
use Rattle.payload.specs.Reading.{root_at, tree_of, Outcome, refusal, result, fitted, spoken, reads}
use Rattle.payload.specs.Lying.{Lies}
use Rattle.payload.specs.Refusing.{Passed}
use Rattle.payload.proofs.Lying.{cut_rest, join, part, lies-is}
use Rattle.payload.proofs.Root.{header_fine_lem, header_cut, headed-fine, fine-headed, Rooted, root_complete, root-sound}

-- a payload in the first z bytes, whatever follows
module _ (d s : List ℕ) (z : ℕ) (t : Tuples) where
  pub payload_header : Payload t (take z s) → header_agrees s ≡ true
  payload_header y =
      let e : s ≡ header_with y.flag y.flag' ++ (y.body ++ drop z s)
      = sym (take-append-drop z s) ∙ ap (λ (l : List ℕ). l ++ drop z s) y.whole in
      ap header_agrees e ∙ header_fine_lem y.flag y.flag' (y.body ++ drop z s)

  pub payload_rooted : (budget l : ℕ) → z ≤ length s → Payload t (take z s) → Fits d t 0 0 [] → suc (depth t) ≤ depth_most → root_count d t + l ≡ budget → Rooted d s budget z l t
  payload_rooted budget l h y f a c =
      record {
        body = y.body;
        lies = cut_rest (header_with y.flag y.flag') y.body (take z s) y.whole (part s 0 z (omega arith) h);
        root = y.root;
        fitting = f;
        shallow = a;
        spent = c;
      }

  pub rooted_payload : (budget l : ℕ) → Bytes s → payload_least ≤ length s → header_agrees s ≡ true → Rooted d s budget z l t → Payload t (take z s)
  rooted_payload budget l hb h e y =
      let head = header_with (byte s 4) (byte s 5) in
      let y₀ : Lies s head 0 payload_least = record { start = omega arith; stands = header_cut s h e; ends = refl } in
      record {
        flag = byte s 4;
        flag' = byte s 5;
        flags = (bytes-at s 4 hb, (bytes-at s 5 hb, tt));
        body = y.body;
        whole = lies-is s (head ++ y.body) 0 z (join head y.body y₀ y.lies);
        root = y.root;
      }

module _ (d s : List ℕ) (budget : ℕ) where
  -- an answered tree, and what it is to the payload
  pub record TreeSound (z l : ℕ) (t : Tuples) : Type 0 where
    pub written : Payload t s
    pub fitting : Fits d t 0 0 []
    pub shallow : suc (depth t) ≤ depth_most
    pub spent : root_count d t + l ≡ budget
    pub place : z ≡ length s

  pub tree-sound : (z l : ℕ) (t : Tuples) → Bytes s → payload_least ≤ length s → header_agrees s ≡ true → tree_of d s budget ≡ good z l t → TreeSound z l t
  unfolding tree_of
  tree-sound z l t hb h e x =
      let a = followed z l t (root_at d s budget) _ x in
      let b = needed z l t (eqb a.0 (length s)) _ _ _ a.4 in
      made a.0 a.1 a.2 (root-sound d s budget a.0 a.1 a.2 hb a.3) (eqb-true _ _ b.0) (same_place b.1) (same_left b.1) (same_thing b.1)
    where
      made : (z' l' : ℕ) (t' : Tuples) → Rooted d s budget z' l' t' → z' ≡ length s → z' ≡ z → l' ≡ l → t' ≡ t → TreeSound z l t
      made z' l' t' y e₁ e₂ e₃ e₄ =
          let y' : Rooted d s budget (length s) l t = rw (e₁, e₃, e₄) at y in
          record {
            written = rw (take-length s) at (rooted_payload d s (length s) t budget l hb h e y');
            fitting = y'.fitting;
            shallow = y'.shallow;
            spent = y'.spent;
            place = omega arith;
          }

  pub tree_complete : (t : Tuples) → Payload t s → Fits d t 0 0 [] → suc (depth t) ≤ depth_most → root_count d t ≤ budget → (header_agrees s ≡ true) × (tree_of d s budget ≡ good (length s) (budget - root_count d t) t)
  unfolding tree_of
  tree_complete t w f a c =
      let y : Payload t (take (length s) s) = rw (take-length s) w in
      let r = root_complete d s budget (length s) (budget - root_count d t) t (payload_rooted d s (length s) t budget (budget - root_count d t) (omega arith) y f a (omega arith)) in
      (payload_header d s (length s) t y, rw (r, eq-eqb (length s) (length s) refl))

pub result-text : {t u : List ℕ} {n m : ℕ} → result t n ≡ result u m → t ≡ u
result-text e = cc

pub result_count : {t u : List ℕ} {n m : ℕ} → result t n ≡ result u m → n ≡ m
result_count e = cc

pub no_result : {k w n : ℕ} {t : List ℕ} {A : Type 0} → refusal k w ≡ result t n → A
no_result e = absurd (let z : ◌≡◌ {A = ℕ} 0 1 = cc in omega arith)

-- a check of the call's answer that was passed
pub by_way : (b : Bool) (k w : ℕ) (f : Unit {0} → Outcome) (t : List ℕ) (n : ℕ) → choose b (λ _. refusal k w) f ≡ result t n → (b ≡ false) × (f tt ≡ result t n)
by_way true k w f t n e = no_result e
by_way false k w f t n e = (refl, e)

module _ (d s : List ℕ) (budget room : ℕ) where
  pub reads_on : Passed d s → reads d s budget room ≡ spoken d room (tree_of d s budget)
  unfolding reads
  reads_on p = rw (p.accepting, le-ltb (length s) payload_least p.in_table.least, le-ltb payload_most (length s) p.in_table.most, headed-fine s p.headed)

  pub reads-passed : (t : List ℕ) (n : ℕ) → reads d s budget room ≡ result t n → Passed d s
  unfolding reads
  reads-passed t n e =
      let a = by_way (not (accepts d)) _ _ _ t n e in
      let b = by_way (ltb (length s) payload_least || ltb payload_most (length s)) _ _ _ t n a.1 in
      let c = by_way (not (header_agrees s)) _ _ _ t n b.1 in
      let least = ltb-false (length s) payload_least (or_left _ _ b.0) in
      record {
        accepting = not-false _ a.0;
        in_table = record { least = least; most = ltb-false payload_most (length s) (or_right (ltb (length s) payload_least) _ b.0) };
        headed = fine-headed s least (not-false _ c.0);
      }

  -- a text within the room
  pub record Spoken (z l : ℕ) (tree : Tuples) (t : List ℕ) (n : ℕ) : Type 0 where
    pub answer : tree_of d s budget ≡ good z l tree
    pub text : root_text d tree ≡ t
    pub tuples : root_count d tree ≡ n
    pub small : length t ≤ room
    pub few : length t ≤ text_most

  spoken-result : (r : Judged Tuples) (t : List ℕ) (n : ℕ) → tree_of d s budget ≡ r → spoken d room r ≡ result t n → (z : ℕ) × (l : ℕ) × (tree : Tuples) × Spoken z l tree t n
  spoken-result (refused k w) t n g e = no_result e
  spoken-result (good z l tree) t n g e =
      let u = root_text d tree in
      let a = by_way (ltb room (length u) || ltb text_most (length u)) _ _ _ t n e in
      let i : u ≡ t = result-text a.1 in
      let j : root_count d tree ≡ n = result_count a.1 in
      let b = ltb-false room (length u) (or_left _ _ a.0) in
      let c = ltb-false text_most (length u) (or_right (ltb room (length u)) _ a.0) in
      (z, l, tree, record { answer = g; text = i; tuples = j; small = omega (arith, ap length i); few = omega (arith, ap length i) })

  pub reads-sound : (t : List ℕ) (n : ℕ) → Bytes s → reads d s budget room ≡ result t n → Means d s t n × (n ≤ budget) × (length t ≤ room) × (length t ≤ text_most)
  reads-sound t n hb e =
      let p = reads-passed t n e in
      let a = spoken-result (tree_of d s budget) t n refl (sym (reads_on p) ∙ e) in
      made a.0 a.1 a.2 a.3 (tree-sound d s budget a.0 a.1 a.2 hb p.in_table.least (headed-fine s p.headed) a.3.answer)
    where
      made : (z l : ℕ) (tree : Tuples) → Spoken z l tree t n → TreeSound d s budget z l tree → Means d s t n × (n ≤ budget) × (length t ≤ room) × (length t ≤ text_most)
      made z l tree x y = (
        record { tree = tree; written = y.written; fitting = y.fitting; shallow = y.shallow; text = x.text; tuples = x.tuples },
        omega (arith, y.spent, x.tuples),
        x.small,
        x.few,
      )

  pub reads_complete : (t : List ℕ) (n : ℕ) → accepts d ≡ true → payload_least ≤ length s → length s ≤ payload_most → Means d s t n → n ≤ budget → length t ≤ room → length t ≤ text_most → reads d s budget room ≡ result t n
  reads_complete t n a h g m b r x =
      let y = tree_complete d s budget m.tree m.written m.fitting m.shallow (omega (arith, m.tuples)) in
      reads_on (record { accepting = a; in_table = record { least = h; most = g }; headed = fine-headed s h y.0 }) ∙ ap (spoken d room) y.1 ∙ fits_in (root_text d m.tree) (root_count d m.tree) m.text m.tuples
    where
      fits_in : (u : List ℕ) (k : ℕ) → u ≡ t → k ≡ n → fitted room text_most u k ≡ result t n
      fits_in u k i j = rw (i, j, le-ltb room (length t) r, le-ltb text_most (length t) x)

  pub reads_exactly : (t : List ℕ) (n : ℕ) → accepts d ≡ true → Bytes s → payload_least ≤ length s → length s ≤ payload_most → (reads d s budget room ≡ result t n) ↔ (Means d s t n × (n ≤ budget) × (length t ≤ room) × (length t ≤ text_most))
  reads_exactly t n a hb h g = (reads-sound t n hb, λ m. reads_complete t n a h g m.0 m.1 m.2 m.3)
