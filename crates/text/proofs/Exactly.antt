-- The four theorems of the writer: it writes exactly the texts that say something, what it writes reads back, nothing shorter does, and what the reader reads can be written.
-- Assumes nothing.
--   writes-sound, writes_complete, writes_exactly   a payload is given exactly when the text says one, within the room and the limit
--   read_back         what was written reads back as the text less its spaces
--   shortest-written  no payload that means that text is shorter, and each has as many tuples
--   other_way_round   a text that the reader gave is written again, in no more bytes, and reads the same
use mathlib.Core.Path.{◌≡◌, refl, sym, ap, ◌∙◌}
use mathlib.Core.Logic.{◌↔◌}
use mathlib.Core.List.{List, [], ◌∷◌}
use mathlib.Core.Bool.{Bool, true, false, not, ◌&&◌, ◌||◌}
use Prim.Native.Nat.{ℕ, suc, ◌≤◌}
use native.Mathlib.Omega.{arith}
use lib.ListN.{length}
use lib.Dec.{ltb, eqb}
use borrow.Author.Tests.{ltb-false, le-ltb, not-false}
use Rattle.paper.specs.Limits.{payload_least, payload_most, text_least, text_most}
use Rattle.paper.specs.Checks.{choose, Judged, refused, good}
use Rattle.paper.proofs.Tests.{or_left, or_right}
use Rattle.numbers.specs.Bytes.{Bytes}
use Rattle.dictionary.specs.Accepts.{accepts}
use Rattle.payload.specs.Tree.{Tuples}
use Rattle.payload.specs.Writes.{Payload}
use Rattle.payload.specs.Text.{quote, root_count, Means}
use Rattle.payload.specs.Reading.{result, fitted, reads}
use Rattle.payload.proofs.Exactly.{result-text, result_count, no_result, by_way, reads-passed, reads-sound, reads_complete}
use Rattle.text.specs.Tokens.{space}
use Rattle.text.specs.Spells.{Says, less_from, less}
use Rattle.text.specs.Shortest.{payload_of}
use Rattle.text.specs.Writing.{tree_of, spoken, writes}
use Rattle.text.proofs.Shortest.{payload-shortest}
use Rattle.text.proofs.Told.{payload-sound, means-tree, shortest-text}
use Rattle.text.proofs.Flat.{root-spells}
use Rattle.text.proofs.Cleanly.{less-text}
use Rattle.text.proofs.Paid.{payload-of}
use Rattle.text.proofs.Hearing.{tree_complete}
use Rattle.text.proofs.Trusting.{Answered, tree-sound}

pub less-few : (inside : Bool) (s : List ℕ) → length (less_from inside s) ≤ length s
unfolding less_from
less-few inside [] = omega arith
less-few inside (c ∷ s) = go (eqb c quote) (not inside && space c) (less-few inside s) (less-few (not inside) s)
  where
    go : (a b : Bool) → length (less_from inside s) ≤ length s → length (less_from (not inside) s) ≤ length s → length (choose a (λ _. c ∷ less_from (not inside) s) λ _. choose b (λ _. less_from inside s) λ _. c ∷ less_from inside s) ≤ suc (length s)
    go true b h g = omega arith
    go false true h g = omega arith
    go false false h g = omega arith

pub payload-long : (t : Tuples) → payload_least ≤ length (payload_of t)
unfolding payload_of
payload-long t = omega arith

module _ (d s : List ℕ) (room : ℕ) where
  -- the tree behind a payload that was written
  pub record Written (b : List ℕ) (n : ℕ) : Type 0 where
    pub tree : Tuples
    pub accepting : accepts d ≡ true
    pub least : text_least ≤ length s
    pub most : length s ≤ text_most
    pub answered : Answered d s accepting tree
    pub bytes : payload_of tree ≡ b
    pub tuples : root_count d tree ≡ n
    pub small : length b ≤ room
    pub few : length b ≤ payload_most

  pub writes-written : (b : List ℕ) (n : ℕ) → writes d s room ≡ result b n → Written b n
  unfolding writes
  writes-written b n e =
      let a = by_way (not (accepts d)) _ _ _ b n e in
      let c = by_way (ltb (length s) text_least || ltb text_most (length s)) _ _ _ b n a.1 in
      go (not-false _ a.0) (ltb-false (length s) text_least (or_left _ _ c.0)) (ltb-false text_most (length s) (or_right (ltb (length s) text_least) _ c.0)) (tree_of d s) refl c.1
    where
      go : accepts d ≡ true → text_least ≤ length s → length s ≤ text_most → (r : Judged Tuples) → tree_of d s ≡ r → spoken d room r ≡ result b n → Written b n
      go ok l m (refused k w) g e = no_result e
      go ok l m (good q j t) g e =
          let u = payload_of t in
          let a = by_way (ltb room (length u) || ltb payload_most (length u)) _ _ _ b n e in
          let i : u ≡ b = result-text a.1 in
          let o = ltb-false room (length u) (or_left _ _ a.0) in
          let c = ltb-false payload_most (length u) (or_right (ltb room (length u)) _ a.0) in
          record {
            tree = t;
            accepting = ok;
            least = l;
            most = m;
            answered = tree-sound d s ok q j t g;
            bytes = i;
            tuples = result_count a.1;
            small = omega (arith, ap length i);
            few = omega (arith, ap length i);
          }

  pub written-payload : (b : List ℕ) (n : ℕ) (w : Written b n) → Payload w.tree b
  written-payload b n w =
      let a = w.answered in
      let p = payload-of d w.accepting w.tree a.proper a.fitting (omega (arith, ap length w.bytes, w.few)) in
      rw w.bytes at p

  pub written-says : (b : List ℕ) (n : ℕ) → Written b n → Says d s b n
  written-says b n w =
      let a = w.answered in
      record { tree = w.tree; spells = a.spells; written = written-payload b n w; fitting = a.fitting; shallow = a.shallow; tuples = w.tuples }

  pub writes-sound : (b : List ℕ) (n : ℕ) → writes d s room ≡ result b n → Says d s b n × (length b ≤ room) × (length b ≤ payload_most)
  writes-sound b n e = let w = writes-written b n e in (written-says b n w, w.small, w.few)

  module _ (ok : accepts d ≡ true) (least : text_least ≤ length s) (most : length s ≤ text_most) where
    pub writes-on : writes d s room ≡ spoken d room (tree_of d s)
    unfolding writes
    writes-on = rw (ok, le-ltb (length s) text_least least, le-ltb text_most (length s) most)

    pub writes_complete : (b : List ℕ) (n : ℕ) (y : Says d s b n) → length b ≤ room → length b ≤ payload_most → writes d s room ≡ result (payload_of y.tree) n
    writes_complete b n y h g =
        let o = tree_complete d s ok y.tree y.spells y.fitting (payload-sound y.tree b y.written) y.shallow in
        let z = (payload-shortest y.tree b y.written).least in
        writes-on ∙ ap (spoken d room) o.1 ∙ fits_in (payload_of y.tree) (root_count d y.tree) (omega arith) (omega arith) y.tuples
      where
        fits_in : (u : List ℕ) (k : ℕ) → length u ≤ room → length u ≤ payload_most → k ≡ n → fitted room payload_most u k ≡ result u n
        fits_in u k r x j = rw (j, le-ltb room (length u) r, le-ltb payload_most (length u) x)

    pub writes_exactly : ((b : List ℕ) × (n : ℕ) × (writes d s room ≡ result b n)) ↔ ((b : List ℕ) × (n : ℕ) × Says d s b n × (length b ≤ room) × (length b ≤ payload_most))
    writes_exactly = (
      λ e. let y = writes-sound e.0 e.1 e.2 in (e.0, e.1, y.0, y.1, y.2),
      λ y. (payload_of y.2.tree, y.1, writes_complete y.0 y.1 y.2 y.3 y.4),
    )

  pub written-means : (b : List ℕ) (n : ℕ) → Written b n → Means d b (less s) n
  written-means b n w =
      let a = w.answered in
      record { tree = w.tree; written = written-payload b n w; fitting = a.fitting; shallow = a.shallow; text = sym (less-text d w.accepting w.tree s a.spells a.proper a.fitting); tuples = w.tuples }

  pub read_back : (b : List ℕ) (n budget room' : ℕ) → writes d s room ≡ result b n → n ≤ budget → length (less s) ≤ room' → reads d b budget room' ≡ result (less s) n
  read_back b n budget room' e h g =
      let w = writes-written b n e in
      reads_complete d b budget room' (less s) n w.accepting (omega (arith, payload-long w.tree, ap length w.bytes)) w.few (written-means b n w) h g (omega (arith, less-few false s, w.most))

  pub shortest-written : (b b' : List ℕ) (n n' : ℕ) → writes d s room ≡ result b n → Means d b' (less s) n' → (length b ≤ length b') × (n' ≡ n)
  unfolding written-means
  shortest-written b b' n n' e m =
      let w = writes-written b n e in
      let x = written-means b n w in
      let l : length (payload_of w.tree) ≤ length b' = shortest-text d w.accepting b b' (less s) n n' x m in
      (omega (arith, l, ap length w.bytes), sym (means-tree d w.accepting b b' (less s) n n' x m).1)

-- the same, of a payload that the reader reads to that text
pub shortest-read : (d s : List ℕ) (room : ℕ) (b b' : List ℕ) (n n' budget room' : ℕ) → Bytes b' → writes d s room ≡ result b n → reads d b' budget room' ≡ result (less s) n' → (length b ≤ length b') × (n' ≡ n)
shortest-read d s room b b' n n' budget room' hb e f = shortest-written d s room b b' n n' e (reads-sound d b' budget room' (less s) n' hb f).0

pub other_way_round : (d p t : List ℕ) (n budget room : ℕ) → Bytes p → reads d p budget room ≡ result t n → (b : List ℕ) × (length b ≤ length p) × ((room' : ℕ) → length b ≤ room' → writes d t room' ≡ result b n) × (reads d b budget room ≡ result t n)
other_way_round d p t n budget room hb e =
    let o = reads-passed d p budget room t n e in
    let r = reads-sound d p budget room t n hb e in
    made o.accepting o.in_table.most r.0 r.1 r.2 r.3
  where
    made : accepts d ≡ true → length p ≤ payload_most → Means d p t n → n ≤ budget → length t ≤ room → length t ≤ text_most → (b : List ℕ) × (length b ≤ length p) × ((room' : ℕ) → length b ≤ room' → writes d t room' ≡ result b n) × (reads d b budget room ≡ result t n)
    made ok most m h₁ h₂ h₃ =
        let s = payload-shortest m.tree p m.written in
        let b = payload_of m.tree in
        let y : Says d t b n = record { tree = m.tree; spells = rw m.text at (root-spells d m.tree); written = s.written; fitting = m.fitting; shallow = m.shallow; tuples = m.tuples } in
        let z : less t ≡ t = less-text d ok m.tree t (rw m.text at (root-spells d m.tree)) (payload-sound m.tree p m.written) m.fitting ∙ m.text in
        let w : (room' : ℕ) → length b ≤ room' → writes d t room' ≡ result b n = λ room' h. writes_complete d t room' ok (omega (arith, ap length m.text)) h₃ b n y h (omega (arith, s.least, most)) in
        (b, s.least, w, rw z at (read_back d t (length b) b n budget room (w (length b) (omega arith)) h₁ (omega (arith, ap length z))))
