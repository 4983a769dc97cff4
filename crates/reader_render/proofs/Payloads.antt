-- The payload: whatever budget its tree was found with, its text is the one that is written; and the calls of `render_payload`.
-- Assumes nothing.
--   tree_again        a budget of as many tuples as there are bytes finds the same tree
--   payload-text      so the text is that of any tree that the answers find
--   accepted-of       and a payload with a tree may be written
--   root-..           the calls of `render_payload`
use mathlib.Core.Path.{◌≡◌, sym, ap, ◌∙◌}
use mathlib.Core.List.{List}
use mathlib.Core.Bool.{true}
use Prim.Native.Nat.{ℕ, ◌+◌, ◌-◌, ◌≤◌}
use native.Mathlib.Omega.{arith}
use lib.ListN.{length, get_or, take, drop}
use lib.Seq.{slice}
use lib.Dec.{eqb}
use borrow.Author.Tests.{eqb-true, eq-eqb}
use mir.Syntax.{w8}
use mir.Val.{Fits}
use Rattle.paper.specs.Limits.{payload_least}
use Rattle.paper.specs.Checks.{good}
use Rattle.numbers.specs.Bytes.{Bytes}
use Rattle.numbers.specs.Number.{Number}
use Rattle.numbers.proofs.Places.{bytes-known, slice-take}
use Rattle.dictionary.specs.Formats.{set_form}
use Rattle.dictionary.specs.Accepts.{accepts}
use Rattle.dictionary.proofs.Laws.{accepted_header}
use Rattle.payload.specs.Tree.{Tuples, size}
use Rattle.payload.specs.Writes.{Cut, Writes}
use Rattle.payload.specs.Text.{text_of, root_text, root_count}
use Rattle.payload.specs.Reading.{shape_of, root_at, tree_of}
use Rattle.payload.proofs.Lying.{lies-end}
use Rattle.paper.proofs.Checks.{same_place, needed, followed}
use Rattle.payload.proofs.Root.{Rooted, root_complete, root-sound}
use Rattle.payload.proofs.Longest.{count-few, tuple_size, cut_size}
use Rattle.reader_render.specs.declared.tuple.Parts.{Parts}
use Rattle.reader_render.specs.Rendered.{from_of, Framed, PartsMet, bracketed, shown, AcceptedIn, payload_text, Accepted}
use Rattle.reader_render.proofs.Parting.{Parted, parted}
use Rattle.reader_render.proofs.Members.{shown_is}

module _ (d s : List ℕ) (budget z l : ℕ) (t : Tuples) (y : tree_of d s budget ≡ good z l t) where
  record Root : Type 0 where
    root : root_at d s budget ≡ good z l t
    ends : z ≡ length s

  root-of : Root
  unfolding tree_of
  root-of =
      let a = followed z l t (root_at d s budget) _ y in
      let b = needed z l t (eqb a.0 (length s)) _ _ _ a.4 in
      record { root = a.3 ∙ b.1; ends = sym (same_place b.1) ∙ eqb-true _ _ b.0 }

  module _ (hb : Bytes s) where
    rooted : Rooted d s budget z l t
    rooted = root-sound d s budget z l t hb root-of.root

    few : root_count d t ≤ length s
    few =
        let r = rooted in
        let v = r.root.rest.rest in
        omega (arith, count-few t v.here.back v.here.rest, cut_size v.value v.here, tuple_size 0 _ r.body r.root, r.lies.ends, lies-end r.lies)

    pub tree_again : tree_of d s (length s) ≡ good z (length s - root_count d t) t
    unfolding tree_of
    tree_again =
        let r = rooted in
        let e = root_complete d s (length s) z (length s - root_count d t) t (record { body = r.body; lies = r.lies; root = r.root; fitting = r.fitting; shallow = r.shallow; spent = omega (arith, few) }) in
        rw (e, eq-eqb z (length s) root-of.ends)

    pub payload-text : payload_text d s ≡ root_text d t
    unfolding payload_text
    payload-text = rw tree_again

  pub accepted-of : accepts d ≡ true → Accepted d s
  accepted-of ok = record { accepted = ok; budget = budget; end = z; left = l; tree = t; found = y }

-- the root's tuple, and its value
module _ {d s : List ℕ} (k : (i : ℕ) → Fits w8 (get_or s i 0)) (h : Accepted d s) where
  root : Rooted d s h.budget h.end h.left h.tree
  root = rooted d s h.budget h.end h.left h.tree h.found (bytes-known s k)

  abbrev V : List ℕ
  V = root.root.rest.rest.value

  parts : Parted s payload_least h.end 0 set_form V
  parts = parted s root.body (Cut (Number (size h.tree)) (Writes h.tree)) payload_least h.end 0 set_form root.lies root.root

  pub root-framed : Framed s payload_least
  root-framed = parts.framed

  abbrev value-in : AcceptedIn d 0 V
  value-in =
      let x = accepted_header d h.accepted in
      record { holder = record { accepted = h.accepted; inside = omega (arith, x.some); holds = omega (arith, x.root) }; tree = h.tree; written = root.root.rest.rest.here; fitting = root.fitting }

  text-is : shown d 0 V ≡ payload_text d s
  text-is =
      shown_is d 0 V value-in
      ∙ ap (λ (g : ℕ). bracketed (shape_of g) (text_of d h.tree 0 0)) (accepted_header d h.accepted).root
      ∙ sym (payload-text d s h.budget h.end h.left h.tree h.found (bytes-known s k))

  module _ {t : Parts} (m : PartsMet s payload_least t) where
    pub root-order : t.from ≤ t.to
    root-order = omega (arith, m.is_from, m.is_to, parts.order, parts.next)

    pub root-within : t.to ≤ length s
    root-within = omega (arith, m.is_to, parts.next, lies-end root.lies)

    abbrev value : List ℕ
    value = take (t.to - t.from) (drop t.from s)

    value_is : value ≡ V
    value_is =
        let a : t.from ≡ from_of s payload_least = m.is_from in
        let b : t.to ≡ h.end = m.is_to ∙ parts.next in
        let e : t.from + (t.to - t.from) ≡ t.to = omega (arith, root-order) in
        sym (slice-take s t.from (t.to - t.from)) ∙ ap (λ (n : ℕ). slice t.from n s) e ∙ rw (a, b) parts.value

    pub root-accepted : AcceptedIn d 0 value
    root-accepted = rw value_is value-in

    pub root-text : payload_text d s ≡ shown d 0 value
    root-text = rw value_is (sym text-is)
