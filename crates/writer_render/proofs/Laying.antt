-- The second pass at each of its calls and returns and round its loop, over plain lists and numbers.
-- Assumes nothing.
--   Grouped        a group that was taken, opened: its tree, and the run of its members
--   Laying         what the loop over the members keeps: what is left to read, to take from the slots and to write are the same members
--   value_rules    the front of a value; group_rules: up to the loop
--   lay-next, lay-end   a turn of the loop, and its end
use Prim.Native.Nat.{ℕ, ◌+◌, ◌-◌, ◌*◌, ◌^◌, ◌≤◌, ◌<◌}
use mathlib.Core.Path.{◌≡◌, refl, sym, ap, ◌∙◌}
use Rattle.std.specs.Prelude.{Result, Ok, Err, IsOk}
use mathlib.Core.List.{List, [], ◌∷◌, ◌++◌, append_assoc}
use native.Mathlib.Omega.{arith}
use lib.ListN.{length, get_or, drop, length-append, length-drop}
use Rattle.paper.specs.Limits.{payload_most}
use Rattle.paper.specs.declared.Refused.{Refused}
use Rattle.paper.specs.Refusal.{number_of as refusal_number}
use Rattle.paper.specs.Checks.{Judged, refused, good, after}
use Rattle.numbers.specs.Number.{number_of}
use Rattle.numbers.specs.declared.output.Output.{Output}
use Rattle.numbers.specs.Output.{Room, Added}
use Rattle.numbers.proofs.Adding.{Adding, begun, onward, ended, joined, renamed, room-first, room-next}
use Rattle.numbers.proofs.Adding as adding
use Rattle.dictionary.specs.Rows.{kind}
use Rattle.payload.specs.Tree.{Tuples, shape_format, size}
use Rattle.payload.specs.declared.Shape.{Shape}
use Rattle.payload.specs.Reading.{Single, group, number_for}
use Rattle.writer_tokens.specs.Met.{Passed}
use Rattle.text.specs.Tokens.{space}
use Rattle.text.specs.Shortest.{tuple_of, shortest}
use Rattle.text.specs.Scanning.{past}
use Rattle.text.specs.Writing.{key_at, value_at, member_at, run, inside_of}
use Rattle.writer_parse.specs.declared.Value.{Value}
use Rattle.writer_parse.specs.declared.Head.{Head}
use Rattle.writer_parse.specs.declared.Head.TheVariants.{Leaf, Many}
use Rattle.writer_parse.specs.declared.Key.{Key}
use Rattle.writer_parse.specs.Leaves.{said, bytes_for, form_of, Proper}
use Rattle.writer_parse.specs.Met.{Site, Holder, LeafAt, ManyAt, outcome, members_at, HeadMet, key_of, KeyAt, KeyMet}
use Rattle.writer_render.specs.declared.Place.{Place}
use Rattle.writer_sizes.specs.Plan.{alone, kept, plan}
use Rattle.writer_render.specs.Parts.{opening}
use Rattle.writer_render.specs.Met.{tree_in, place_of, Ready, Rendered}
use Rattle.writer_sizes.proofs.Trees.{none-plan, leaf-bytes, leaf-plan, group-plan}
use Rattle.writer_render.proofs.Planned.{before-bytes, before-plan, before-size, nothing, no_bytes, size_few, kept-few, group-opening, group-few, first_of, past_of, Step, run-some, run_step, member-value, member_keyed}

-- the second pass may begin, and has ended, for a value that is known
module _ (d s : List ℕ) (room row n p q l : ℕ) (x : Single) (e : value_at d s (inside_of d s room) n row p ≡ good q l x) (k : ℕ) (o : Output) where
  abbrev from : Place
  from = record { at = p; slot = k }

  pub ready : (slots post : List ℕ) → Site d s row p → n < 2 ^ 31 → drop k slots ≡ plan (alone x) ++ post → length (shortest (alone x)) ≤ payload_most → Room o (shortest (alone x)) → Ready d s slots room row n from o
  ready slots post t h f b r = record { site = t; number = h; taken = rw e tt; post = post; holds = rw e f; few = rw e b; has_room = rw e r }

  rendered : (to : Place) (o' : Output) → to.at ≡ q → p ≤ to.at → to.at ≤ length s → to.slot ≡ k + length (plan (alone x)) → Added o (shortest (alone x)) o' → Rendered d s room row n from o to o'
  rendered to o' f g h j w = record { next = rw e f; further = g; within = h; slots = rw e j; put = rw e w }

  module _ (slots : List ℕ) (R : Ready d s slots room row n from o) where
    known-holds : drop k slots ≡ plan (alone x) ++ R.post
    known-holds = R.holds ∙ ap (λ (y : Judged Single). plan (tree_in y) ++ R.post) e

    known-few : length (shortest (alone x)) ≤ payload_most
    known-few = omega (arith, R.few, ap (λ (y : Judged Single). length (shortest (tree_in y))) e)

    known-room : Room o (shortest (alone x))
    known-room = omega (arith, R.has_room, ap (λ (y : Judged Single). length (shortest (tree_in y))) e)

  module _ (to : Place) (o' : Output) (E : Rendered d s room row n from o to o') where
    known_next : to.at ≡ q
    known_next = E.next ∙ ap place_of e

    known-slots : to.slot ≡ k + length (plan (alone x))
    known-slots = E.slots ∙ ap (λ (y : Judged Single). k + length (plan (tree_in y))) e

    pub known-put : Added o (shortest (alone x)) o'
    known-put = renamed (sym (ap (λ (y : Judged Single). shortest (tree_in y)) e)) E.put

-- the front of a value
module _ (d s slots : List ℕ) (room row n : ℕ) (from : Place) (o : Output) (R : Ready d s slots room row n from o) where
  pub ready-site : Site d s row from.at
  ready-site = R.site

  module _ (y : Result Head Refused) (h : HeadMet d s room row from.at y) where
    -- what was taken is not refused
    pub head-some : IsOk y
    head-some = go y (h.same n)
      where
        go : (r : Result Head Refused) → value_at d s (inside_of d s room) n row from.at ≡ outcome d s room row n r → IsOk r
        go (Ok x) f = refl
        go (Err w) f = absurd (rw f at R.taken)

    module _ (x : Head) (u : y ≡ Ok x) (v : Value) (q : ℕ) (f : x ≡ Leaf v q) where
      is-leaf : y ≡ Ok (Leaf v q)
      is-leaf = u ∙ ap (λ (a : Head). Ok a) f

      leaf-at : LeafAt s from.at v q
      leaf-at = rw is-leaf at h.fine

      leaf-is : value_at d s (inside_of d s room) n row from.at ≡ good q 0 (said s n v)
      leaf-is = h.same n ∙ ap (outcome d s room row n) is-leaf

      pub leaf-number : n < 2 ^ 31
      leaf-number = R.number

      pub leaf-proper : Proper s v
      leaf-proper = leaf-at.proper

      pub leaf-room : Room o (tuple_of n (form_of v) (bytes_for s v))
      leaf-room = omega (arith, known-room d s room row n from.at q 0 (said s n v) leaf-is from.slot o slots R, ap length (leaf-bytes s n v))

      pub leaf-end : (o' : Output) → Added o (tuple_of n (form_of v) (bytes_for s v)) o' → Rendered d s room row n from o (record { at = q; slot = from.slot }) o'
      leaf-end o' w =
          rendered d s room row n from.at q 0 (said s n v) leaf-is from.slot o (record { at = q; slot = from.slot }) o' refl
          (omega (arith, leaf-at.spans.further))
          leaf-at.spans.within
          (omega (arith, ap length (leaf-plan s n v)))
          (renamed (leaf-bytes s n v) w)

pub ruleset value_rules = (ready-site, head-some, leaf-number, leaf-proper, leaf-room, leaf-end)

-- a group that was taken, opened
pub record Grouped (d s : List ℕ) (room row n p : ℕ) (g : Shape) (first : ℕ) : Type 0 where
  pub end : ℕ
  pub mark : ℕ
  pub tree : Tuples
  pub runs : run d s (member_at d s (inside_of d s (room - 1))) g row (length s) 0 [] first ≡ good end mark tree
  pub found : value_at d s (inside_of d s room) n row p ≡ good end 0 (group n g tree)
  pub some : 1 ≤ size tree

-- its two slots, its opening and what is left of its plan
module _ (d s : List ℕ) (room row n p end : ℕ) (g : Shape) (tree : Tuples) (f : value_at d s (inside_of d s room) n row p ≡ good end 0 (group n g tree)) (some : 1 ≤ size tree) (slots : List ℕ) (k : ℕ) (o : Output) (R : Ready d s slots room row n (record { at = p; slot = k }) o) where
  group-short : length (number_of (size tree)) + length (shortest tree) ≤ payload_most
  group-short = omega (arith, group-few n g tree, known-few d s room row n p end 0 (group n g tree) f k o slots R)

  plan-is : plan (alone (group n g tree)) ≡ kept (length (number_of (size tree)) + length (shortest tree)) ∷ kept (size tree) ∷ plan tree
  plan-is = group-plan n g tree (λ z. omega arith)

  two : drop k slots ≡ kept (length (number_of (size tree)) + length (shortest tree)) ∷ kept (size tree) ∷ plan tree ++ R.post
  two = known-holds d s room row n p end 0 (group n g tree) f k o slots R ∙ ap (λ (l : List ℕ). l ++ R.post) plan-is

  one : drop (k + 1) slots ≡ kept (size tree) ∷ plan tree ++ R.post
  one = (first_of slots (kept (size tree) ∷ plan tree ++ R.post) k (kept (length (number_of (size tree)) + length (shortest tree))) two).1

  group-size : get_or slots k 0 ≡ length (number_of (size tree)) + length (shortest tree)
  group-size =
      (first_of slots (kept (size tree) ∷ plan tree ++ R.post) k (kept (length (number_of (size tree)) + length (shortest tree))) two).0
      ∙ kept-few (length (number_of (size tree)) + length (shortest tree)) (omega (arith, group-short))

  group-count : get_or slots (k + 1) 0 ≡ size tree
  group-count = (first_of slots (plan tree ++ R.post) (k + 1) (kept (size tree)) one).0 ∙ kept-few (size tree) (omega (arith, group-short, size_few tree))

  group-rest : drop (k + 2) slots ≡ plan tree ++ R.post
  group-rest =
      let e : k + 1 + 1 ≡ k + 2 = omega arith in
      rw e at (first_of slots (plan tree ++ R.post) (k + 1) (kept (size tree)) one).1

  group-slots : k + 2 ≤ length slots
  group-slots = omega (arith, ap length two, length-drop k slots)

  group-long : length (plan (alone (group n g tree))) ≡ 2 + length (plan tree)
  group-long = ap length plan-is ∙ omega arith

  -- the opening, by what the slots say and by the tree
  module _ (z c : ℕ) (hz : z ≡ get_or slots k 0) (hc : c ≡ get_or slots (k + 1) 0) where
    counted : c ≡ size tree
    counted = hc ∙ group-count

    opening-is : shortest (alone (group n g tree)) ≡ opening n g z c ++ shortest tree
    opening-is = let a = hz ∙ group-size in let b = counted in group-opening n g tree ∙ rw (a, b)

    opening-room : Room o (opening n g z c ++ shortest tree)
    opening-room = omega (arith, known-room d s room row n p end 0 (group n g tree) f k o slots R, ap length opening-is)

-- the members from `now` on are left: to read, to take from the slots, and to write
pub record Laying (d s slots : List ℕ) (room row n p k : ℕ) (g : Shape) (count : ℕ) (o₀ o : Output) (now : Place) (i : ℕ) : Type 0 where
  pub site : Site d s row p
  pub some : 1 ≤ room
  pub form : kind d row ≡ shape_format g
  pub from : p ≤ now.at
  pub few : i ≤ now.at
  pub within : now.at ≤ length s
  pub seen : List ℕ
  pub end : ℕ
  pub tree : Tuples
  pub found : value_at d s (inside_of d s room) n row p ≡ good end 0 (group n g tree)
  pub filled : 1 ≤ size tree
  pub short : length (shortest tree) ≤ payload_most
  pub fit : Room o₀ (shortest tree)
  pub rest : Tuples
  pub left : i + size rest ≡ count
  pub more : ℕ
  pub mark : ℕ
  pub runs : 1 ≤ size rest → run d s (member_at d s (inside_of d s (room - 1))) g row more i seen now.at ≡ good end mark rest
  pub ends : size rest ≡ 0 → end ≡ now.at
  pub post : List ℕ
  pub holds : drop now.slot slots ≡ plan rest ++ post
  pub place : now.slot + length (plan rest) ≡ k + 2 + length (plan tree)
  pub there : Adding o₀ (shortest tree) o (shortest rest)

module _ (d s slots : List ℕ) (room row n p k : ℕ) (o : Output) (R : Ready d s slots room row n (record { at = p; slot = k }) o) (y : Result Head Refused) (h : HeadMet d s room row p y) (x : Head) (u : y ≡ Ok x) (g : Shape) (first : ℕ) (f : x ≡ Many g first) where
  is-many : y ≡ Ok (Many g first)
  is-many = u ∙ ap (λ (a : Head). Ok a) f

  many-at : ManyAt d s room row p g first
  many-at = rw is-many at h.fine

  many-opened : Grouped d s room row n p g first
  unfolding members_at
  many-opened = go (run d s (member_at d s (inside_of d s (room - 1))) g row (length s) 0 [] first) refl (h.same n ∙ ap (outcome d s room row n) is-many)
    where
      go : (t : Judged Tuples) → run d s (member_at d s (inside_of d s (room - 1))) g row (length s) 0 [] first ≡ t → value_at d s (inside_of d s room) n row p ≡ (after t λ z _ kids. good z 0 (group n g kids)) → Grouped d s room row n p g first
      go (refused a w) m i = absurd (rw i at R.taken)
      go (good z l kids) m i =
          record { end = z; mark = l; tree = kids; runs = m; found = i; some = run-some d s (member_at d s (inside_of d s (room - 1))) g row (length s) 0 [] first z l kids m }

  two-slots : k + 2 ≤ length slots
  two-slots = let G = many-opened in group-slots d s room row n p G.end g G.tree G.found G.some slots k o R

  pub count_fits : length slots * 2 < 2 ^ 63 → k + 1 < 2 ^ 64
  count_fits l = omega (arith, two-slots)

  pub slot-fits : length slots * 2 < 2 ^ 63 → k + 2 < 2 ^ 64
  slot-fits l = omega (arith, two-slots)

  pub count-inside : k + 1 < length slots
  count-inside = omega (arith, two-slots)

  pub many-number : n < 2 ^ 31
  many-number = R.number

  pub size-inside : k < length slots
  size-inside = omega (arith, two-slots)

  module _ (z c : ℕ) (hz : z ≡ get_or slots k 0) (hc : c ≡ get_or slots (k + 1) 0) where
    pub opening-fits : Room o (opening n g z c)
    opening-fits = let G = many-opened in room-first o (opening n g z c) (shortest G.tree) (opening-room d s room row n p G.end g G.tree G.found G.some slots k o R z c hz hc)

    started : (o₀ : Output) → Added o (opening n g z c) o₀ → Laying d s slots room row n p k g c o₀ o₀ (record { at = first; slot = k + 2 }) 0
    started o₀ v =
        let G = many-opened in
        begin G.end G.mark G.tree G.runs G.found G.some
        (counted d s room row n p G.end g G.tree G.found G.some slots k o R z c hz hc)
        (opening-room d s room row n p G.end g G.tree G.found G.some slots k o R z c hz hc)
        (group-short d s room row n p G.end g G.tree G.found G.some slots k o R)
        (group-rest d s room row n p G.end g G.tree G.found G.some slots k o R)
      where
        begin : (end mark : ℕ) (tree : Tuples) → run d s (member_at d s (inside_of d s (room - 1))) g row (length s) 0 [] first ≡ good end mark tree → value_at d s (inside_of d s room) n row p ≡ good end 0 (group n g tree) → 1 ≤ size tree → c ≡ size tree → Room o (opening n g z c ++ shortest tree) → length (number_of (size tree)) + length (shortest tree) ≤ payload_most → drop (k + 2) slots ≡ plan tree ++ R.post → Laying d s slots room row n p k g c o₀ o₀ (record { at = first; slot = k + 2 }) 0
        begin end mark tree runs found some hs hr hb hp =
            record {
              site = R.site;
              some = many-at.roomy;
              form = many-at.form;
              from = omega (arith, many-at.spans.further);
              few = omega arith;
              within = many-at.spans.within;
              seen = [];
              end = end;
              tree = tree;
              found = found;
              filled = some;
              short = omega arith;
              fit = room-next (shortest tree) hr v;
              rest = tree;
              left = omega arith;
              more = length s;
              mark = mark;
              runs = λ j. runs;
              ends = λ j. absurd (omega arith);
              post = R.post;
              holds = hp;
              place = refl;
              there = begun o₀ (shortest tree);
            }

-- the premises stand in an order in which each shows what the next needs
pub lay-start : (d s slots : List ℕ) (room row n p k : ℕ) (o : Output) (y : Result Head Refused) (x : Head) (g : Shape) (first z c : ℕ) (o₀ : Output) → Added o (opening n g z c) o₀ → x ≡ Many g first → y ≡ Ok x → HeadMet d s room row p y → Ready d s slots room row n (record { at = p; slot = k }) o → z ≡ get_or slots k 0 → c ≡ get_or slots (k + 1) 0 → Laying d s slots room row n p k g c o₀ o₀ (record { at = first; slot = k + 2 }) 0
lay-start d s slots room row n p k o y x g first z c o₀ v f u h R hz hc = started d s slots room row n p k o R y h x u g first f z c hz hc o₀ v

pub ruleset group_rules = (ready-site, head-some, count_fits, slot-fits, count-inside, many-number, size-inside, opening-fits, lay-start)

-- round the loop
module _ {d s slots : List ℕ} {room row n p k : ℕ} {g : Shape} {count : ℕ} {o₀ o : Output} {now : Place} {i : ℕ} (L : Laying d s slots room row n p k g count o₀ o now i) where
  pub room-some : 1 ≤ room
  room-some = L.some

  pub shallower : (t : ℕ) → room ≡ t → room - 1 < t
  shallower t e = omega (arith, L.some)

  pub key_holder : Holder d s row g now.at
  key_holder = record { site = record { own = L.site.own; short = L.site.short; within = L.within }; form = L.form }

  pub key_few : i ≤ now.at
  key_few = L.few

  abbrev member : Shape → ℕ → ℕ → List ℕ → ℕ → Judged Single
  member = member_at d s (inside_of d s (room - 1))

  module _ (h : i < count) {y : Result Key Refused} (K : KeyMet d s row now.at (key_at d s g row i [] now.at) y) where
    step : Step d s member g row i L.seen now.at L.end L.rest
    step = run_step d s member g row L.more i L.seen now.at L.end L.mark L.rest (L.runs (omega (arith, L.left)))

    -- the member was taken
    pub key-some : IsOk y
    key-some = go y K.same
      where
        go : (r : Result Key Refused) → key_at d s g row i [] now.at ≡ key_of d s r → IsOk r
        go (Ok x) f = refl
        go (Err w) f = member_keyed d s (inside_of d s (room - 1)) g row i L.seen now.at step.place step.left step.head (refusal_number w.refusal) w.place step.first f

    module _ {key : Key} (e : y ≡ Ok key) where
      key_there : KeyAt d s row now.at key
      key_there = rw e at K.lies

      abbrev q : ℕ
      q = key.next

      abbrev m : ℕ
      m = key.number

      abbrev c : ℕ
      c = key.row

      child-site : Site d s c q
      child-site = record { own = key_there.own; short = L.site.short; within = key_there.within }

      child-found : value_at d s (inside_of d s (room - 1)) m c q ≡ good step.place step.left step.head
      child-found =
          sym (ap (λ (j : ℕ). value_at d s (inside_of d s (room - 1)) m j q) key_there.child_is)
          ∙ member-value d s (inside_of d s (room - 1)) g row i L.seen now.at step.place step.left step.head q m step.first (K.same ∙ ap (key_of d s) e)

      bytes_left : shortest L.rest ≡ shortest (alone step.head) ++ shortest step.rest
      bytes_left = ap shortest step.whole ∙ before-bytes step.head step.rest

      plan-left : plan L.rest ≡ plan (alone step.head) ++ plan step.rest
      plan-left = ap plan step.whole ∙ before-plan step.head step.rest

      slots-left : drop now.slot slots ≡ plan (alone step.head) ++ (plan step.rest ++ L.post)
      slots-left = L.holds ∙ ap (λ (l : List ℕ). l ++ L.post) plan-left ∙ append_assoc (plan (alone step.head)) (plan step.rest) L.post

      head-long : length (shortest (alone step.head)) ≤ length (shortest L.rest)
      head-long = omega (arith, ap length bytes_left, length-append (shortest (alone step.head)) (shortest step.rest))

      rest-long : length (shortest L.rest) ≤ length (shortest L.tree)
      rest-long = omega (arith, ap length L.there.whole, length-append L.there.done (shortest L.rest))

      pub child-ready : Ready d s slots (room - 1) c m (record { at = q; slot = now.slot }) o
      child-ready =
          ready d s (room - 1) c m q step.place step.left step.head child-found now.slot o slots (plan step.rest ++ L.post) child-site key_there.number slots-left
          (omega (arith, head-long, rest-long, L.short))
          (omega (arith, head-long, adding.room L.fit L.there))

      module _ {r : Place} {o₁ : Output} (E : Rendered d s (room - 1) c m (record { at = q; slot = now.slot }) o r o₁) where
        pub skip_in : r.at ≤ length s
        skip_in = E.within

        at_place : r.at ≡ step.place
        at_place = known_next d s (room - 1) c m q step.place step.left step.head child-found now.slot o r o₁ E

        module _ {a : ℕ} (P : Passed space s r.at a) where
          a-is : past space s step.place ≡ a
          a-is = sym (P.same ∙ ap (past space s) at_place)

          pub at-fits : length s * 1 < 2 ^ 63 → a + 1 < 2 ^ 64
          at-fits l = omega (arith, P.within)

          pub lay-next : Laying d s slots room row n p k g count o₀ o₁ (record { at = a + 1; slot = r.slot }) (i + 1)
          lay-next =
              let b = a-is in
              let g = known-slots d s (room - 1) c m q step.place step.left step.head child-found now.slot o r o₁ E in
              record {
                site = L.site;
                some = L.some;
                form = L.form;
                from = omega (arith, L.from, key_there.from, E.further, P.from);
                few = omega (arith, L.few, key_there.from, E.further, P.from);
                within = omega (arith, b, step.inside);
                seen = number_for step.head ∷ L.seen;
                end = L.end;
                tree = L.tree;
                found = L.found;
                filled = L.filled;
                short = L.short;
                fit = L.fit;
                rest = step.rest;
                left = omega (arith, L.left, ap size step.whole, before-size step.head step.rest);
                more = step.more;
                mark = step.mark;
                runs = λ j. rw b at (step.others j);
                ends = λ j. step.last j ∙ ap (λ (x : ℕ). x + 1) b;
                post = L.post;
                holds = ap (λ (x : ℕ). drop x slots) g ∙ past_of slots (plan (alone step.head)) (plan step.rest ++ L.post) now.slot slots-left;
                place = omega (arith, g, L.place, ap length plan-left, length-append (plan (alone step.head)) (plan step.rest));
                there = onward (shortest L.rest) bytes_left L.there (known-put d s (room - 1) c m q step.place step.left step.head child-found now.slot o r o₁ E);
              }

  -- the end
  module _ {o₁ : Output} (R : Ready d s slots room row n (record { at = p; slot = k }) o₁) {z : ℕ} (hz : z ≡ get_or slots k 0) (hc : count ≡ get_or slots (k + 1) 0) (v : Added o₁ (opening n g z count) o₀) where
    pub lay-end : count ≤ i → Rendered d s room row n (record { at = p; slot = k }) o₁ now o
    lay-end h =
        let e : size L.rest ≡ 0 = omega (arith, L.left) in
        let f = nothing L.rest e in
        rendered d s room row n p L.end 0 (group n g L.tree) L.found k o₁ now o
        (sym (L.ends e))
        L.from
        L.within
        (omega (arith, L.place, ap (λ (t : Tuples). length (plan t)) f, ap length none-plan, group-long d s room row n p L.end g L.tree L.found L.filled slots k o₁ R))
        (renamed (opening-is d s room row n p L.end g L.tree L.found L.filled slots k o₁ R z count hz hc) (joined v (ended (ap shortest f ∙ no_bytes) L.there)))
