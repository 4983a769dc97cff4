-- The entry: what each return of `written` and of `write` has to show, and that the contract admits one outcome.
-- Assumes nothing.
--   slots_suffice  what the first pass keeps of a payload within the table's limit has room in the slots
use Prim.Native.Nat.{ℕ, ◌+◌, ◌^◌, ◌≤◌, ◌<◌}
use mathlib.Core.Path.{◌≡◌, refl, sym, ap, ◌∙◌}
use mathlib.Core.Logic.{◌⊎◌, inl, inr}
use mathlib.Core.List.{List, ◌++◌}
use mathlib.Core.Bool.{Bool, true, false, not, ◌||◌}
use native.Mathlib.Omega.{arith}
use native.Mathlib.Nat.{zero-add}
use lib.ListN.{length, drop, replicate, length-append, length-replicate}
use lib.Seq.{sets, sets-eq}
use lib.Dec.{ltb}
use borrow.Author.Tests.{lt-ltb, le-ltb, ltb-false, not-true, not-false}
use Rattle.paper.specs.Limits.{payload_least, payload_most, text_least, text_most, depth_most}
use Rattle.paper.specs.Refusals.{accepted, dictionary_wrong, length_wrong, no_room}
use Rattle.paper.specs.Checks.{choose, Judged, refused, good}
use Rattle.std.specs.Prelude.{Ok, Err}
use Rattle.paper.specs.declared.Refusal.TheVariants.{DictionaryWrong, LengthWrong, NoRoom}
use Rattle.paper.specs.declared.Refused.{Refused}
use Rattle.paper.specs.Refusal.{number_of, Answer, told}
use Rattle.paper.proofs.Tests.{or_left, or_right}
use Rattle.numbers.specs.Met.{wrote, Wrote}
use Rattle.numbers.specs.declared.output.Output.{Output}
use Rattle.numbers.specs.Output.{Added}
use Rattle.numbers.proofs.Adding.{joined, as_long, renamed}
use Rattle.dictionary.specs.Accepts.{accepts}
use Rattle.dictionary.proofs.Laws.{accepted_header}
use Rattle.payload.specs.Tree.{Tuples, count}
use Rattle.payload.specs.declared.Shape.TheVariants.{Set}
use Rattle.payload.specs.Header.{header_with}
use Rattle.payload.specs.Text.{root_count}
use Rattle.payload.specs.Reading.{group, Outcome, refusal, result, answer_of, contents_of}
use Rattle.payload.specs.Answered.{Answered}
use Rattle.text.specs.Shortest.{shortest, payload_of}
use Rattle.text.specs.Writing.{tree_of, spoken, writes}
use Rattle.writer_parse.specs.Met.{Site}
use Rattle.writer_judge.specs.declared.Measure as code
use Rattle.writer_judge.specs.Met.{measured, root_measure, RootStored, Bound, JudgeMet}
use Rattle.writer_judge.specs.Met as judged
use Rattle.writer_sizes.specs.Plan.{alone, plan, slots_most}
use Rattle.writer_sizes.proofs.Trees.{group-bytes, group-count}
use Rattle.writer_sizes.proofs.Plans.{plan-few}
use Rattle.writer_render.specs.declared.Place.{Place}
use Rattle.writer_render.specs.Met.{Ready, Rendered}
use Rattle.writer_render.proofs.Laying.{ready, known-put}

-- the tuple of a payload's root
abbrev root : Tuples → Tuples
root t = alone (group 0 Set t)

root-payload : (t : Tuples) → payload_of t ≡ header_with 0 0 ++ shortest (root t)
unfolding payload_of
root-payload t = ap (λ (b : List ℕ). header_with 0 0 ++ b) (sym (group-bytes 0 Set t))

payload-long : (t : Tuples) → length (payload_of t) ≡ payload_least + length (shortest (root t))
payload-long t = ap length (root-payload t) ∙ length-append (header_with 0 0) (shortest (root t))

pub slots_suffice : (t : Tuples) → length (payload_of t) ≤ payload_most → length (plan (root t)) ≤ slots_most
slots_suffice t h = omega (arith, payload-long t, plan-few (root t))

-- what the first pass says of the whole answer
tree-refused : (x : Judged Tuples) (k w : ℕ) → judged.Refused k w ≡ root_measure x → x ≡ refused k w
tree-refused (refused a b) k w e = cc
tree-refused (good q l t) k w e = absurd (let z : ◌≡◌ {A = ℕ} 0 1 = cc in omega arith)

pub record Found (d s old new : List ℕ) (long tuples : ℕ) : Type 0 where
  end : ℕ
  left : ℕ
  tree : Tuples
  found : tree_of d s ≡ good end left tree
  measures : payload_least + long ≡ length (payload_of tree)
  counts : tuples ≡ root_count d tree
  laid : new ≡ sets old 0 (plan (root tree))

found_by : (d s old new : List ℕ) (q next long tuples : ℕ) (x : Judged Tuples) → tree_of d s ≡ x → judged.Sized q next long tuples ≡ root_measure x → RootStored old x new → Found d s old new long tuples
found_by d s old new q next long tuples (refused a b) f e h = absurd (let z : ◌≡◌ {A = ℕ} 0 1 = cc in omega arith)
found_by d s old new q next long tuples (good z l t) f e h =
    let b : long ≡ length (shortest (root t)) = cc in
    let c : tuples ≡ count (root t) = cc in
    record { end = z; left = l; tree = t; found = f; measures = ap (λ (k : ℕ). payload_least + k) b ∙ sym (payload-long t); counts = c ∙ group-count 0 Set t; laid = h }

abbrev accepting : ℕ → ℕ → Answer
accepting n k = record { number = accepted; place = 0; count = n; length = k }

alike : (n m k l : ℕ) → n ≡ m → k ≡ l → accepting n k ≡ accepting m l
alike n m k l e f = rw (e, f)

module _ (d s old : List ℕ) where
  spoke : (x : Outcome) → spoken d (length old) (tree_of d s) ≡ x → (r : Answer) (new : List ℕ) → r ≡ answer_of x → new ≡ contents_of x old → Answered (spoken d (length old) (tree_of d s)) old r new
  spoke x f r new g h = record { answer = g ∙ ap answer_of (sym f); contents = h ∙ ap (λ (y : Outcome). contents_of y old) (sym f) }

  module _ (slots kept : List ℕ) where
    pub written-refused : (k : Refused) → JudgeMet d s slots (measured (Err k)) kept → Answered (spoken d (length old) (tree_of d s)) old (told (Err k)) old
    written-refused k h =
        spoke (refusal (number_of k.refusal) k.place) (ap (spoken d (length old)) (tree-refused (tree_of d s) (number_of k.refusal) k.place h.same)) _ old refl refl

    module _ (m : code.Measure) (h : JudgeMet d s slots (measured (Ok m)) kept) where
      bound : Bound s 0 0 m.next m.slot m.long m.tuples
      bound = h.bound

      pub written-fits : Site d s 0 0 → payload_least + m.long < 2 ^ 64
      written-fits st = omega (arith, bound.bytes, bound.within, st.short)

      pub one : Found d s slots kept m.long m.tuples
      one = found_by d s slots kept m.next m.slot m.long m.tuples (tree_of d s) refl h.same h.stored

      fitting : (b : Bool) → b ≡ (ltb (length old) (payload_least + m.long) || ltb payload_most (payload_least + m.long)) → spoken d (length old) (tree_of d s) ≡ choose b (λ _. refusal no_room 0) (λ _. result (payload_of one.tree) (root_count d one.tree))
      fitting b g = let x = one.measures in ap (spoken d (length old)) one.found ∙ rw (g, x)

      module _ (b : Bool) (g : b ≡ (ltb (length old) (payload_least + m.long) || ltb payload_most (payload_least + m.long))) where
        pub written_tight : b ≡ true → (k : Refused) → k.refusal ≡ NoRoom → k.place ≡ 0 → Answered (spoken d (length old) (tree_of d s)) old (told (Err k)) old
        written_tight f k r z = spoke (refusal no_room 0) (fitting true (sym f ∙ g)) (told (Err k)) old (rw (r, z)) refl

        module _ (f : b ≡ false) where
          roomy : payload_least + m.long ≤ length old
          roomy = ltb-false (length old) (payload_least + m.long) (or_left (ltb (length old) (payload_least + m.long)) (ltb payload_most (payload_least + m.long)) (sym g ∙ f))

          few : payload_least + m.long ≤ payload_most
          few = ltb-false payload_most (payload_least + m.long) (or_right (ltb (length old) (payload_least + m.long)) (ltb payload_most (payload_least + m.long)) (sym g ∙ f))

          pub written_header : 0 + length (header_with 0 0) ≤ length old
          written_header = omega (arith, roomy)

          holds : slots ≡ replicate slots_most 0 → kept ≡ plan (root one.tree) ++ drop (length (plan (root one.tree))) slots
          holds i =
              let p = plan (root one.tree) in
              let j : length slots ≡ slots_most = ap length i ∙ length-replicate {A = ℕ} slots_most 0 in
              let z : length p ≤ slots_most = slots_suffice one.tree (omega (arith, few, one.measures)) in
              one.laid ∙ sets-eq p slots 0 (omega arith) ∙ ap (λ (k : ℕ). p ++ drop k slots) (zero-add (length p))

          module _ (o o' : Output) (w : Added o (header_with 0 0) o') where
            pub written-ready : o.pos ≡ 0 → o.buf.now ≡ old → slots ≡ replicate slots_most 0 → Site d s 0 0 → Ready d s kept depth_most 0 0 (record { at = 0; slot = 0 }) o'
            written-ready z e i st =
                let t = one.tree in
                ready d s depth_most 0 0 0 one.end 0 (group 0 Set t) (h.ready one.end one.left t one.found) 0 o' kept (drop (length (plan (root t))) slots) st (omega arith) (holds i)
                (omega (arith, few, one.measures, payload-long t))
                (omega (arith, roomy, one.measures, payload-long t, z, ap length e, w.wrote.place, as_long w))

            pub written-whole : (r : Place) (o'' : Output) → Rendered d s depth_most 0 0 (record { at = 0; slot = 0 }) o' r o'' → Added o (payload_of one.tree) o''
            written-whole r o'' E =
                let t = one.tree in
                renamed (root-payload t) (joined w (known-put d s depth_most 0 0 0 one.end 0 (group 0 Set t) (h.ready one.end one.left t one.found) 0 o' r o'' E))

          pub written-good : (pos : ℕ) (new : List ℕ) → Wrote old 0 (payload_of one.tree) pos new → Answered (spoken d (length old) (tree_of d s)) old (told (Ok (record { count = m.tuples; length = pos }))) new
          unfolding wrote
          written-good pos new v =
              let x = payload_of one.tree in
              let a : pos ≡ length x = v.place ∙ zero-add (length x) in
              let c : new ≡ x ++ drop (length x) old = v.left ∙ sets-eq x old 0 (omega (arith, roomy, one.measures)) ∙ ap (λ (i : ℕ). x ++ drop i old) (zero-add (length x)) in
              spoke (result x (root_count d one.tree)) (fitting false (sym f ∙ g)) _ new (alike m.tuples (root_count d one.tree) pos (length x) one.counts a) c

pub ruleset writings = (written-refused, written-fits, written_tight, written_header, written-ready)

-- "1, 2, 3 are tested in that order before the root": a text has no header, and so no 3
module _ (d s old : List ℕ) where
  answered : (x : Outcome) → writes d s (length old) ≡ x → (r : Answer) (new : List ℕ) → r ≡ answer_of x → new ≡ contents_of x old → Answered (writes d s (length old)) old r new
  answered x f r new g h = record { answer = g ∙ ap answer_of (sym f); contents = h ∙ ap (λ (y : Outcome). contents_of y old) (sym f) }

  module _ (t : Bool) (a : t ≡ accepts d) where
    pub write-unread : not t ≡ true → (k : Refused) → k.refusal ≡ DictionaryWrong → k.place ≡ 0 → Answered (writes d s (length old)) old (told (Err k)) old
    unfolding writes
    write-unread n k f g = answered (refusal dictionary_wrong 0) (rw (← a, not-true t n)) (told (Err k)) old (rw (f, g)) refl

    module _ (n : not t ≡ false) where
      pub write-outside : (length s < text_least) ⊎ ((text_least ≤ length s) × (text_most < length s)) → (k : Refused) → k.refusal ≡ LengthWrong → k.place ≡ 0 → Answered (writes d s (length old)) old (told (Err k)) old
      unfolding writes
      write-outside (inl h) k f g = answered (refusal length_wrong 0) (rw (← a, not-false t n, lt-ltb (length s) text_least h)) (told (Err k)) old (rw (f, g)) refl
      write-outside (inr (h, l)) k f g = answered (refusal length_wrong 0) (rw (← a, not-false t n, le-ltb (length s) text_least h, lt-ltb text_most (length s) l)) (told (Err k)) old (rw (f, g)) refl

      module _ (h : text_least ≤ length s) where
        module _ (l : length s ≤ text_most) where
          pub write-site : Site d s 0 0
          write-site =
              let k : accepts d ≡ true = sym a ∙ not-false t n in
              record { own = record { accepted = k; inside = omega (arith, (accepted_header d k).some) }; short = l; within = omega arith }

          pub write-on : (r : Answer) (new : List ℕ) → Answered (spoken d (length old) (tree_of d s)) old r new → Answered (writes d s (length old)) old r new
          unfolding writes
          write-on r new w = answered (spoken d (length old) (tree_of d s)) (rw (← a, not-false t n, le-ltb (length s) text_least h, le-ltb text_most (length s) l)) r new w.answer w.contents

pub ruleset entries = (write-unread, write-outside, write-site, write-on)
