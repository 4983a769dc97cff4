-- The first pass, at each of its returns and round its loop, over plain lists and numbers.
-- Assumes nothing.
use Prim.Native.Nat.{ℕ, zero, suc, ◌+◌, ◌-◌, ◌*◌, ◌^◌, ◌≤◌, ◌<◌}
use mathlib.Core.Path.{◌≡◌, refl, sym, ap, ◌∙◌}
use mathlib.Core.List.{List, [], ◌∷◌, ◌++◌}
use native.Mathlib.Omega.{arith}
use native.Mathlib.Nat.{add-zero}
use native.Mathlib.Numerals.{add-one}
use lib.ListN.{length, set, length-append}
use lib.Seq.{sets, length-sets, set_comm}
use borrow.Author.Tests.{le-leb}
use Rattle.std.specs.Prelude.{Result, Ok, Err}
use Rattle.paper.specs.declared.Refused as paper
use Rattle.paper.specs.declared.Refusal.TheVariants.{BadText}
use Rattle.paper.specs.Refusals.{bad_text}
use Rattle.paper.specs.Refusal as table
use Rattle.paper.specs.Checks.{choose, Judged, refused, good, after}
use Rattle.numbers.specs.Number.{number_of}
use Rattle.numbers.proofs.Numbers.{number-few}
use Rattle.payload.specs.Tree.{Tuples, none, size, count}
use Rattle.payload.specs.declared.Shape.{Shape}
use Rattle.payload.specs.declared.Shape.TheVariants.{Set, Array}
use Rattle.payload.specs.Fits.{child}
use Rattle.payload.specs.Reading.{Single, group, number_for, before}
use Rattle.repeats.specs.Roll.{Blank, Kept}
use Rattle.repeats.proofs.Rolls.{keep-start}
use Rattle.text.specs.Shortest.{shortest}
use Rattle.text.specs.Scanning.{past, token_at}
use Rattle.text.specs.Tokens.{space}
use Rattle.text.specs.Writing.{name_at, parted_at, key_at, value_at, member_at, run, inside_of}
use Rattle.text.proofs.Cutting.{past-least}
use Rattle.writer_parse.specs.declared.Value.{Value}
use Rattle.writer_parse.specs.declared.Head.{Head}
use Rattle.writer_parse.specs.declared.Head.TheVariants.{Leaf, Many}
use Rattle.writer_parse.specs.declared.Key.{Key}
use Rattle.writer_parse.specs.declared.Parted.{Parted}
use Rattle.writer_parse.specs.declared.Parted.TheVariants.{Comma, Closed}
use Rattle.writer_parse.specs.Leaves.{said, bytes_for, form_of, Proper}
use Rattle.writer_parse.specs.Met.{Holder, LeafAt, ManyAt, outcome, members_at, HeadMet, KeyAt, key_of, part_of, PartedMet}
use Rattle.writer_parse.proofs.Heading.{numbered}
use Rattle.writer_sizes.specs.Plan.{alone, kept, plan, tuple_long}
use Rattle.writer_sizes.proofs.Trees.{joint, joint-next, bytes-joint, plan-joint, size-joint, count-joint, size-alone, none-bytes, none-plan, none-size, none-count, tuple_length, leaf-bytes, leaf-plan, leaf-count, group-long, group-plan, group-count}
use Rattle.writer_judge.specs.declared.Measure as code
use Rattle.writer_judge.specs.declared.Tally.{Tally}
use Rattle.writer_judge.specs.declared.Step as steps
use Rattle.writer_judge.specs.declared.Step.TheVariants as step
use Rattle.writer_judge.specs.Met.{Measure, Refused, Sized, measured, Step, Stop, On, stepped, tallied, Keeps, FreshMet, Stand, measure_of, Stored, Bound, Measured, Shut, Stepping, StepIs, PartedStep}

-- sizes stored one after the other, and one stored before the others
sets_append : (a b d : List ℕ) (p : ℕ) → sets (sets d p a) (p + length a) b ≡ sets d p (a ++ b)
sets_append [] b d p = ap (λ (k : ℕ). sets d k b) (add-zero p)
sets_append (x ∷ a) b d p =
    ap (λ (k : ℕ). sets (sets (set d p x) (suc p) a) k b) (omega arith)
    ∙ sets_append a b (set d p x) (suc p)

set-sets : (z d : List ℕ) (j k x : ℕ) → k < j → set (sets d j z) k x ≡ sets (set d k x) j z
set-sets [] d j k x h = refl
set-sets (y ∷ z) d j k x h =
    set-sets z (set d j y) (suc j) k x (omega arith) ∙ ap (λ (l : List ℕ). sets l (suc j) z) (set_comm d j k y x (λ e. omega arith))

two-sets : (z d : List ℕ) (k x y : ℕ) → set (set (sets d (k + 2) z) k x) (k + 1) y ≡ sets d k (x ∷ y ∷ z)
two-sets z d k x y =
    ap (λ (l : List ℕ). set l (k + 1) y) (set-sets z d (k + 2) k x (omega arith))
    ∙ set-sets z (set d k x) (k + 2) (k + 1) y (omega arith)
    ∙ ap (λ (j : ℕ). sets (set (set d k x) j y) (k + 2) z) (add-one k)
    ∙ ap (λ (j : ℕ). sets (set (set d k x) (suc k) y) j z) (omega arith)

-- what an answer tells
pub record Told (d s : List ℕ) (room row n p k : ℕ) (old : List ℕ) (q next b t : ℕ) (new : List ℕ) : Type 0 where
  pub one : Single
  pub left : ℕ
  pub found : value_at d s (inside_of d s room) n row p ≡ good q left one
  pub slot : next ≡ k + length (plan (alone one))
  pub bytes : b ≡ length (shortest (alone one))
  pub tuples : t ≡ count (alone one)
  pub put : new ≡ sets old k (plan (alone one))

told_by_lem : (x : Judged Single) (k : ℕ) (old new : List ℕ) (q next b t : ℕ) → Sized q next b t ≡ measure_of k x → Stored k old x new → (one : Single) × (l : ℕ) × (x ≡ good q l one) × (next ≡ k + length (plan (alone one))) × (b ≡ length (shortest (alone one))) × (t ≡ count (alone one)) × (new ≡ sets old k (plan (alone one)))
told_by_lem (refused a w) k old new q next b t e f = absurd (let z : ◌≡◌ {A = ℕ} 0 1 = cc in omega arith)
told_by_lem (good r l one) k old new q next b t e f =
    let g : q ≡ r = cc in
    (one, l, ap (λ (i : ℕ). good i l one) (sym g), cc, cc, cc, f)

denied_by : (x : Judged Single) (k a w : ℕ) → Refused a w ≡ measure_of k x → x ≡ refused a w
denied_by (refused b v) k a w e = cc
denied_by (good q l one) k a w e = absurd (let z : ◌≡◌ {A = ℕ} 0 1 = cc in omega arith)

module _ (d s : List ℕ) (room row n p k : ℕ) (old : List ℕ) (y : Measure) (new : List ℕ) (m : Measured d s room row n p k old y new) where
  pub told-good : (q next b t : ℕ) → y ≡ Sized q next b t → Told d s room row n p k old q next b t new
  told-good q next b t e =
      let x = told_by_lem (value_at d s (inside_of d s room) n row p) k old new q next b t (sym e ∙ m.same) m.stored in
      record { one = x.0; left = x.1; found = x.2; slot = x.3; bytes = x.4; tuples = x.5; put = x.6 }

  pub told-bound : (q next b t : ℕ) → y ≡ Sized q next b t → Bound s p k q next b t
  told-bound q next b t e = rw e at m.bound

  pub told_no : (a w : ℕ) → y ≡ Refused a w → value_at d s (inside_of d s room) n row p ≡ refused a w
  told_no a w e = denied_by (value_at d s (inside_of d s room) n row p) k a w (sym e ∙ m.same)

module _ (d s : List ℕ) (room row n p k : ℕ) (old new : List ℕ) where
  denied : (a w : ℕ) → value_at d s (inside_of d s room) n row p ≡ refused a w → length new ≡ length old → Measured d s room row n p k old (Refused a w) new
  denied a w e h = record { same = sym (ap (measure_of k) e); stored = rw e tt; long = h; bound = tt }

  granted : (q l : ℕ) (one : Single) (next b t : ℕ) → value_at d s (inside_of d s room) n row p ≡ good q l one → next ≡ k + length (plan (alone one)) → b ≡ length (shortest (alone one)) → t ≡ count (alone one) → new ≡ sets old k (plan (alone one)) → Bound s p k q next b t → Measured d s room row n p k old (Sized q next b t) new
  granted q l one next b t e f g h put bound =
      record {
        same = ap (λ (i : ℕ). Sized q i b t) f ∙ ap (λ (i : ℕ). Sized q (k + length (plan (alone one))) i t) g ∙ ap (λ (i : ℕ). Sized q (k + length (plan (alone one))) (length (shortest (alone one))) i) h ∙ sym (ap (measure_of k) e);
        stored = rw e put;
        long = ap length put ∙ length-sets old k (plan (alone one));
        bound = bound;
      }

tuple_few : (n v : ℕ) → tuple_long n v ≤ 11 + v
unfolding tuple_long
tuple_few n v = omega (arith, number-few (2 * n), number-few v)

module _ (d s : List ℕ) (room row n p k : ℕ) (old : List ℕ) (st : Stand d s row n p k) where
  pub head-refused : (x : paper.Refused) → HeadMet d s room row p (Err x) → Measured d s room row n p k old (measured (Err x)) old
  head-refused x h = denied d s room row n p k old old (table.number_of x.refusal) x.place (h.same n) refl

  module _ (y : Head) (h : HeadMet d s room row p (Ok y)) (v : Value) (q : ℕ) (e : y ≡ Leaf v q) where
    leaf-at : LeafAt s p v q
    leaf-at = rw e at h.fine

    pub leaf-proper : Proper s v
    leaf-proper = leaf-at.proper

    pub leaf-number : n < 2 ^ 31
    leaf-number = st.number

    pub leaf-size : (z : ℕ) → z ≡ length (bytes_for s v) → z < 2 ^ 32
    leaf-size z f = omega (arith, f, leaf-at.small, leaf-at.spans.within, st.site.short)

    pub leaf : (z b : ℕ) → z ≡ length (bytes_for s v) → b ≡ tuple_long n z → Measured d s room row n p k old (Sized q k b 1) old
    leaf z b f g =
        let x : value_at d s (inside_of d s room) n row p ≡ good q 0 (said s n v) = h.same n ∙ ap (λ (i : Head). outcome d s room row n (Ok i)) e in
        let l : length (shortest (alone (said s n v))) ≡ tuple_long n (length (bytes_for s v)) = ap length (leaf-bytes s n v) ∙ tuple_length n (form_of v) (bytes_for s v) in
        let bb : b ≡ tuple_long n (length (bytes_for s v)) = g ∙ ap (tuple_long n) f in
        granted d s room row n p k old old q 0 (said s n v) k b 1 x (omega (arith, ap length (leaf-plan s n v))) (bb ∙ sym l) (sym (leaf-count s n v)) (ap (sets old k) (sym (leaf-plan s n v)))
        (record {
          further = leaf-at.spans.further;
          within = leaf-at.spans.within;
          slots = omega (arith, leaf-at.spans.further);
          bytes = omega (arith, bb, tuple_few n (length (bytes_for s v)), leaf-at.small, leaf-at.spans.further);
          tuples = omega (arith, leaf-at.spans.further);
        })

-- the loop over the members
pub record Gathering (d s : List ℕ) (room row n p k : ℕ) (old : List ℕ) (g : Shape) (first : ℕ) (slots bits : List ℕ) (was : Tally) : Type 0 where
  pub stand : Stand d s row n p k
  pub many : ManyAt d s room row p g first
  pub fuel : ℕ
  pub seen : List ℕ
  pub done : Tuples
  pub left : value_at d s (inside_of d s room) n row p ≡ (after (run d s (member_at d s (inside_of d s (room - 1))) g row fuel was.members seen was.at) λ z _ t. good z 0 (group n g (joint done t)))
  pub enough : length s ≤ was.at + fuel
  pub roll : Kept d row seen bits
  pub bytes : was.long ≡ length (shortest done)
  pub members : was.members ≡ size done
  pub all : was.tuples ≡ suc (count done)
  pub place : was.slot ≡ k + 2 + length (plan done)
  pub put : slots ≡ sets old (k + 2) (plan done)
  pub from : first ≤ was.at
  pub within : was.at ≤ length s
  pub slots_few : was.slot + 2 * first ≤ k + 2 + 2 * was.at
  pub bytes_few : was.long + 20 * first ≤ 20 * was.at
  pub tuples_few : was.tuples + first ≤ was.at + 1
  pub members_few : was.members + first ≤ was.at

-- what is left after one more member
more-after : (n : ℕ) (g : Shape) (x : Judged Tuples) (had : Tuples) (one : Single) → (after (after x λ z _ rest. good z 0 (before one rest)) λ z _ t. good z 0 (group n g (joint had t))) ≡ (after x λ z _ t. good z 0 (group n g (joint (joint had (alone one)) t)))
more-after n g (refused a w) had one = refl
more-after n g (good z l t) had one = ap (λ (u : Tuples). good z 0 (group n g u)) (joint-next had one t)

module _ (d s : List ℕ) (room row : ℕ) (g : Shape) where
  member : Shape → ℕ → ℕ → List ℕ → ℕ → Judged Single
  member = member_at d s (inside_of d s (room - 1))

  -- one turn of `run`: a member and what parts it from the next
  run_on : (f i : ℕ) (seen : List ℕ) (at : ℕ) → run d s (member_at d s (inside_of d s (room - 1))) g row (suc f) i seen at
      ≡ (after (after (key_at d s g row i seen at) λ q _ n. value_at d s (inside_of d s (room - 1)) n (child d row n) q) λ e _ x.
      after (parted_at s g e) λ q _ more.
      choose more (λ _. after (run d s (member_at d s (inside_of d s (room - 1))) g row f (suc i) (number_for x ∷ seen) q) λ z _ rest. good z 0 (before x rest)) λ _.
      good q 0 (before x none))
  unfolding run member_at
  run_on f i seen at = refl

  -- past the end there is no member
  run_end : (f i : ℕ) (seen : List ℕ) (at : ℕ) → length s ≤ at → run d s (member_at d s (inside_of d s (room - 1))) g row f i seen at ≡ refused bad_text (length s)
  unfolding run member_at key_at name_at value_at token_at
  run_end zero i seen at h = refl
  run_end (suc f) i seen at h = go g
    where
      over : length s ≤ past space s at
      over = let l = past-least space s at in omega arith

      go : (k : Shape) → run d s (member_at d s (inside_of d s (room - 1))) k row (suc f) i seen at ≡ refused bad_text (length s)
      go Set = rw (le-leb (length s) (past space s at) over)
      go Array = rw (le-leb (length s) (past space s at) over)

module _ (d s : List ℕ) (room row n p k : ℕ) (old : List ℕ) (st : Stand d s row n p k) (y : Head) (h : HeadMet d s room row p (Ok y)) (g : Shape) (first : ℕ) (e : y ≡ Many g first) where
  many : ManyAt d s room row p g first
  many = rw e at h.fine

  pub slot-fits : k + 2 < 2 ^ 64
  slot-fits = omega (arith, st.slot, st.site.within, st.site.short)

  pub gather : (bits : List ℕ) → Blank bits → Gathering d s room row n p k old g first old bits (record { at = first; slot = k + 2; long = 0; tuples = 1; members = 0 })
  unfolding members_at joint
  gather bits blank =
      record {
        stand = st;
        many = many;
        fuel = length s;
        seen = [];
        done = none;
        left = h.same n ∙ ap (λ (i : Head). outcome d s room row n (Ok i)) e;
        enough = omega arith;
        roll = keep-start d row bits blank;
        bytes = sym none-bytes;
        members = sym none-size;
        all = omega (arith, none-count);
        place = omega (arith, ap length none-plan);
        put = ap (sets old (k + 2)) (sym none-plan);
        from = omega arith;
        within = many.spans.within;
        slots_few = omega arith;
        bytes_few = omega arith;
        tuples_few = omega arith;
        members_few = omega arith;
      }

module _ (d s : List ℕ) (room row n p k : ℕ) (old : List ℕ) (g : Shape) (first : ℕ) (slots bits : List ℕ) (was : Tally) (G : Gathering d s room row n p k old g first slots bits was) where
  pub as_long : length slots ≡ length old
  as_long = ap length G.put ∙ length-sets old (k + 2) (plan G.done)

  pub turn-roomy : 1 ≤ room
  turn-roomy = G.many.roomy

  pub shallower : (t : ℕ) → room ≡ t → room - 1 < t
  shallower t z = omega (arith, G.many.roomy)

  pub out_of-text : length s ≤ was.at → (x : paper.Refused) → x.refusal ≡ BadText → x.place ≡ length s → Measured d s room row n p k old (measured (Err x)) slots
  out_of-text l x i j = rw (i, j) (denied d s room row n p k old slots bad_text (length s) (G.left ∙ rw (run_end d s room row g G.fuel was.members G.seen was.at l)) as_long)

  pub holder : Holder d s row g was.at
  holder = record { site = record { own = G.stand.site.own; short = G.stand.site.short; within = G.within }; form = G.many.form }

  pub key_few : was.members ≤ was.at
  key_few = omega (arith, G.members_few)

  module _ (bits' : List ℕ) where
    key_is : (y : Result Key paper.Refused) → FreshMet d s g row was.members bits was.at y bits' → key_at d s g row was.members G.seen was.at ≡ key_of d s y
    key_is y hk = hk.same G.seen G.roll

    fed : was.at < length s → (f : ℕ) → G.fuel ≡ f → (u : ℕ) × (G.fuel ≡ suc u)
    fed lt zero z = absurd (omega (arith, G.enough, z))
    fed lt (suc u) z = (u, z)

    turned : (u : ℕ) → G.fuel ≡ suc u → value_at d s (inside_of d s room) n row p ≡ (after (run d s (member_at d s (inside_of d s (room - 1))) g row (suc u) was.members G.seen was.at) λ z _ t. good z 0 (group n g (joint G.done t)))
    turned u z = G.left ∙ ap (λ (f : ℕ). after (run d s (member_at d s (inside_of d s (room - 1))) g row f was.members G.seen was.at) λ z _ t. good z 0 (group n g (joint G.done t))) z

    pub no_key : was.at < length s → (x : paper.Refused) → FreshMet d s g row was.members bits was.at (Err x) bits' → Measured d s room row n p k old (measured (Err x)) slots
    no_key lt x hk =
        let u = fed lt G.fuel refl in
        denied d s room row n p k old slots (table.number_of x.refusal) x.place (turned u.0 u.1 ∙ rw (run_on d s room row g u.0 was.members G.seen was.at, key_is (Err x) hk)) as_long

    module _ (key : Key) (hk : FreshMet d s g row was.members bits was.at (Ok key) bits') where
      abbrev q : ℕ
      q = key.next

      abbrev m : ℕ
      m = key.number

      abbrev c : ℕ
      c = key.row

      keyed : KeyAt d s row was.at key
      keyed = hk.lies

      keeps : Keeps d row bits m bits'
      keeps = hk.keeps

      pub inner : Stand d s c m q was.slot
      inner =
          record {
            site = record { own = keyed.own; short = G.stand.site.short; within = keyed.within };
            number = keyed.number;
            slot = omega (arith, G.slots_few, G.stand.slot, G.many.spans.further, keyed.from);
          }

      -- the run from here on, by the member's value
      run_by : (u : ℕ) (v : Judged Single) → value_at d s (inside_of d s (room - 1)) m c q ≡ v → run d s (member_at d s (inside_of d s (room - 1))) g row (suc u) was.members G.seen was.at
          ≡ (after v λ e _ x.
          after (parted_at s g e) λ q _ more.
          choose more (λ _. after (run d s (member_at d s (inside_of d s (room - 1))) g row u (suc was.members) (number_for x ∷ G.seen) q) λ z _ rest. good z 0 (before x rest)) λ _.
          good q 0 (before x none))
      run_by u v f =
          let vi : value_at d s (inside_of d s (room - 1)) m (child d row m) q ≡ v = ap (λ (j : ℕ). value_at d s (inside_of d s (room - 1)) m j q) keyed.child_is ∙ f in
          run_on d s room row g u was.members G.seen was.at ∙ rw (key_is (Ok key) hk, vi)

      module _ (w : Measure) (slots' : List ℕ) (hw : Measured d s (room - 1) c m q was.slot slots w slots') where
        kept-long : length slots' ≡ length old
        kept-long = hw.long ∙ as_long

        no_value : was.at < length s → (a z : ℕ) → w ≡ Refused a z → Measured d s room row n p k old (Refused a z) slots'
        no_value lt a z f =
            let u = fed lt G.fuel refl in
            denied d s room row n p k old slots' a z (turned u.0 u.1 ∙ rw (run_by u.0 (refused a z) (told_no d s (room - 1) c m q was.slot slots w slots' hw a z f))) kept-long

        module _ (e next' b t : ℕ) (f : w ≡ Sized e next' b t) where
          bound : Bound s q was.slot e next' b t
          bound = told-bound d s (room - 1) c m q was.slot slots w slots' hw e next' b t f

          part_stepping : Stepping s k n was e b t
          part_stepping =
              record {
                within = bound.within;
                adds =
                    record {
                      bytes = omega (arith, G.bytes_few, bound.bytes, bound.within, keyed.within, G.stand.site.short, G.within);
                      tuples = omega (arith, G.tuples_few, bound.tuples, bound.within, G.stand.site.short, G.within);
                      members = omega (arith, G.members_few, G.within, G.stand.site.short);
                    };
                number = G.stand.number;
                slot = omega (arith, G.stand.slot, G.stand.site.within, G.stand.site.short);
              }

          told : Told d s (room - 1) c m q was.slot slots e next' b t slots'
          told = told-good d s (room - 1) c m q was.slot slots w slots' hw e next' b t f

          kids : Tuples
          kids = joint G.done (alone told.one)

          more-put : slots' ≡ sets old (k + 2) (plan (joint G.done (alone told.one)))
          more-put =
              told.put ∙ ap (λ (l : List ℕ). sets l was.slot (plan (alone told.one))) G.put
              ∙ ap (λ (j : ℕ). sets (sets old (k + 2) (plan G.done)) j (plan (alone told.one))) G.place
              ∙ sets_append (plan G.done) (plan (alone told.one)) old (k + 2)
              ∙ ap (sets old (k + 2)) (sym (plan-joint G.done (alone told.one)))

          more-place : next' ≡ k + 2 + length (plan (joint G.done (alone told.one)))
          more-place = omega (arith, told.slot, G.place, ap length (plan-joint G.done (alone told.one)), length-append (plan G.done) (plan (alone told.one)))

          more_bytes : was.long + b ≡ length (shortest (joint G.done (alone told.one)))
          more_bytes = omega (arith, told.bytes, G.bytes, ap length (bytes-joint G.done (alone told.one)), length-append (shortest G.done) (shortest (alone told.one)))

          more-members : was.members + 1 ≡ size (joint G.done (alone told.one))
          more-members = omega (arith, G.members, size-joint G.done (alone told.one), size-alone told.one)

          more-all : was.tuples + t ≡ suc (count (joint G.done (alone told.one)))
          more-all = omega (arith, G.all, told.tuples, count-joint G.done (alone told.one))

          -- the run by what parts the member from the next
          parting : (o : ℕ) (u : Result Parted paper.Refused) → PartedMet s g e u → run d s (member_at d s (inside_of d s (room - 1))) g row (suc o) was.members G.seen was.at
              ≡ (after (part_of u) λ z _ more.
              choose more (λ _. after (run d s (member_at d s (inside_of d s (room - 1))) g row o (suc was.members) (number_for told.one ∷ G.seen) z) λ z _ rest. good z 0 (before told.one rest)) λ _.
              good z 0 (before told.one none))
          parting o u hu = run_by o (good e told.left told.one) told.found ∙ rw hu.same

          commaed : (z o : ℕ) → PartedMet s g e (Ok (Comma z)) → G.fuel ≡ suc o → Gathering d s room row n p k old g first slots' bits' (tallied was next' b t z)
          commaed z o hu v =
              let num : number_for told.one ≡ m = numbered d s (room - 1) c m q e told.left told.one inner.site told.found in
              record {
                stand = G.stand;
                many = G.many;
                fuel = o;
                seen = m ∷ G.seen;
                done = joint G.done (alone told.one);
                left =
                    turned o v ∙ rw (parting o (Ok (Comma z)) hu, num, ← add-one was.members)
                    (more-after n g (run d s (member_at d s (inside_of d s (room - 1))) g row o (was.members + 1) (m ∷ G.seen) z) G.done told.one);
                enough = omega (arith, G.enough, v, hu.lies.further, bound.further, keyed.from);
                roll = keeps.more G.seen G.roll;
                bytes = more_bytes;
                members = more-members;
                all = more-all;
                place = more-place;
                put = more-put;
                from = omega (arith, G.from, keyed.from, bound.further, hu.lies.further);
                within = hu.lies.within;
                slots_few = omega (arith, G.slots_few, bound.slots, keyed.from, hu.lies.further);
                bytes_few = omega (arith, G.bytes_few, bound.bytes, keyed.from, hu.lies.further);
                tuples_few = omega (arith, G.tuples_few, bound.tuples, keyed.from, hu.lies.further);
                members_few = omega (arith, G.members_few, keyed.from, bound.further, hu.lies.further);
              }

          some : size (joint G.done (alone told.one)) ≡ 0 → ⊥
          some l = omega (arith, l, more-members)

          plan-is : plan (alone (group n g (joint G.done (alone told.one)))) ≡ kept (length (number_of (was.members + 1)) + (was.long + b)) ∷ kept (was.members + 1) ∷ plan (joint G.done (alone told.one))
          plan-is = group-plan n g (joint G.done (alone told.one)) some ∙ rw (more-members, more_bytes)

          shut-bytes : tuple_long n (length (number_of (was.members + 1)) + (was.long + b)) ≡ length (shortest (alone (group n g (joint G.done (alone told.one)))))
          shut-bytes = sym (group-long n g (joint G.done (alone told.one)) ∙ rw (more-members, more_bytes))

          closed_by : (z o : ℕ) → PartedMet s g e (Ok (Closed z)) → G.fuel ≡ suc o → (r : code.Measure) (new : List ℕ) → Shut slots' k n (tallied was next' b t z) r new → Measured d s room row n p k old (measured (Ok r)) new
          closed_by z o hu v r new sh =
              rw sh.same
              (granted d s room row n p k old new z 0 (group n g (joint G.done (alone told.one))) next' (tuple_long n (length (number_of (was.members + 1)) + (was.long + b))) (was.tuples + t)
              (turned o v ∙ rw (parting o (Ok (Closed z)) hu))
              (omega (arith, more-place, ap length plan-is))
              shut-bytes
              (more-all ∙ sym (group-count n g (joint G.done (alone told.one))))
              (sh.stored ∙ ap (λ (l : List ℕ). set (set l k (kept (length (number_of (was.members + 1)) + (was.long + b)))) (k + 1) (kept (was.members + 1))) more-put
              ∙ two-sets (plan (joint G.done (alone told.one))) old k (kept (length (number_of (was.members + 1)) + (was.long + b))) (kept (was.members + 1))
              ∙ ap (sets old k) (sym plan-is))
              (record {
                further = omega (arith, G.many.spans.further, G.from, keyed.from, bound.further, hu.lies.further);
                within = hu.lies.within;
                slots = omega (arith, G.slots_few, bound.slots, keyed.from, hu.lies.further, G.many.spans.further);
                bytes = omega (arith, tuple_few n (length (number_of (was.members + 1)) + (was.long + b)), number-few (was.members + 1), G.bytes_few, bound.bytes, keyed.from, hu.lies.further, G.many.spans.further);
                tuples = omega (arith, G.tuples_few, bound.tuples, keyed.from, hu.lies.further, G.many.spans.further);
              }))

          module _ (lt : was.at < length s) (v : Step) (slots'' : List ℕ) (hv : PartedStep s g slots' k n was e next' b t v slots'') where
            stop_by : (u : Result Parted paper.Refused) → PartedMet s g e u → StepIs slots' k n was next' b t u v slots'' → (r : Measure) → v ≡ Stop r → Measured d s room row n p k old r slots''
            stop_by (Err z) hu is r j =
                let o = fed lt G.fuel refl in
                let x : Stop r ≡ Stop (measured (Err z)) = sym j ∙ is.same in
                let y : r ≡ measured (Err z) = cc in
                rw y (denied d s room row n p k old slots'' (table.number_of z.refusal) z.place (turned o.0 o.1 ∙ rw (parting o.0 (Err z) hu)) (hv.long ∙ kept-long))
            stop_by (Ok (Comma z)) hu is r j = absurd (let x : Stop r ≡ On (tallied was next' b t z) = sym j ∙ is.same in let y : ◌≡◌ {A = ℕ} 0 1 = cc in omega arith)
            stop_by (Ok (Closed z)) hu is r j =
                let o = fed lt G.fuel refl in
                let x : Stop r ≡ Stop (measured (Ok is.answer)) = sym j ∙ is.same in
                let y : r ≡ measured (Ok is.answer) = cc in
                rw y (closed_by z o.0 hu o.1 is.answer slots'' is.shut)

            stopped : (r : Measure) → v ≡ Stop r → Measured d s room row n p k old r slots''
            stopped r j = stop_by hv.parted hv.met hv.is r j

            on_by : (u : Result Parted paper.Refused) → PartedMet s g e u → StepIs slots' k n was next' b t u v slots'' → (x : Tally) → v ≡ On x → Gathering d s room row n p k old g first slots'' bits' x × (was.at < x.at) × (x.at ≤ length s)
            on_by (Err z) hu is x j = absurd (let i : On x ≡ Stop (measured (Err z)) = sym j ∙ is.same in let y : ◌≡◌ {A = ℕ} 0 1 = cc in omega arith)
            on_by (Ok (Closed z)) hu is x j = absurd (let i : On x ≡ Stop (measured (Ok is.answer)) = sym j ∙ is.same in let y : ◌≡◌ {A = ℕ} 0 1 = cc in omega arith)
            on_by (Ok (Comma z)) hu is x j =
                let o = fed lt G.fuel refl in
                let i : On x ≡ On (tallied was next' b t z) = sym j ∙ is.same in
                let y : x ≡ tallied was next' b t z = cc in
                rw (y, is.kept_as) (commaed z o.0 hu o.1, omega (arith, hu.lies.further, bound.further, keyed.from), hu.lies.within)

            module _ (now : Tally) (j : v ≡ On now) where
              again : Gathering d s room row n p k old g first slots'' bits' now
              again = (on_by hv.parted hv.met hv.is now j).0

-- a turn of the loop; the premises stand in an order in which each shows what the next needs
module _ (d s : List ℕ) (room row n p k : ℕ) (old : List ℕ) (g : Shape) (first : ℕ) (slots bits : List ℕ) (was : Tally) (bits' : List ℕ) (key : Key) (slots' : List ℕ) where
  pub turn-refused : (x : paper.Refused) → Measured d s (room - 1) key.row key.number key.next was.slot slots (measured (Err x)) slots' → Gathering d s room row n p k old g first slots bits was → FreshMet d s g row was.members bits was.at (Ok key) bits' → was.at < length s → Measured d s room row n p k old (measured (Err x)) slots'
  turn-refused x hw G hk lt = no_value d s room row n p k old g first slots bits was G bits' key hk (measured (Err x)) slots' hw lt (table.number_of x.refusal) x.place refl

  module _ (w : code.Measure) where
    pub turn-steps : Measured d s (room - 1) key.row key.number key.next was.slot slots (measured (Ok w)) slots' → Gathering d s room row n p k old g first slots bits was → FreshMet d s g row was.members bits was.at (Ok key) bits' → Stepping s k n was w.next w.long w.tuples
    turn-steps hw G hk = part_stepping d s room row n p k old g first slots bits was G bits' key hk (measured (Ok w)) slots' hw w.next w.slot w.long w.tuples refl

    module _ (slots'' : List ℕ) where
      pub turn-ends : (x : paper.Refused) → PartedStep s g slots' k n was w.next w.slot w.long w.tuples (stepped (Err x)) slots'' → Measured d s (room - 1) key.row key.number key.next was.slot slots (measured (Ok w)) slots' → Gathering d s room row n p k old g first slots bits was → FreshMet d s g row was.members bits was.at (Ok key) bits' → was.at < length s → Measured d s room row n p k old (measured (Err x)) slots''
      turn-ends x hv hw G hk lt = stopped d s room row n p k old g first slots bits was G bits' key hk (measured (Ok w)) slots' hw w.next w.slot w.long w.tuples refl lt (stepped (Err x)) slots'' hv (measured (Err x)) refl

      module _ (v : steps.Step) where
        pub turn-stops : (m : code.Measure) → v ≡ step.Stop m → PartedStep s g slots' k n was w.next w.slot w.long w.tuples (stepped (Ok v)) slots'' → Measured d s (room - 1) key.row key.number key.next was.slot slots (measured (Ok w)) slots' → Gathering d s room row n p k old g first slots bits was → FreshMet d s g row was.members bits was.at (Ok key) bits' → was.at < length s → Measured d s room row n p k old (measured (Ok m)) slots''
        turn-stops m j hv hw G hk lt = stopped d s room row n p k old g first slots bits was G bits' key hk (measured (Ok w)) slots' hw w.next w.slot w.long w.tuples refl lt (stepped (Ok v)) slots'' hv (measured (Ok m)) (ap (λ (i : steps.Step). stepped (Ok i)) j)

        module _ (now : Tally) where
          pub turn_again : v ≡ step.On now → PartedStep s g slots' k n was w.next w.slot w.long w.tuples (stepped (Ok v)) slots'' → Measured d s (room - 1) key.row key.number key.next was.slot slots (measured (Ok w)) slots' → Gathering d s room row n p k old g first slots bits was → FreshMet d s g row was.members bits was.at (Ok key) bits' → was.at < length s → Gathering d s room row n p k old g first slots'' bits' now
          turn_again j hv hw G hk lt = again d s room row n p k old g first slots bits was G bits' key hk (measured (Ok w)) slots' hw w.next w.slot w.long w.tuples refl lt (stepped (Ok v)) slots'' hv now (ap (λ (i : steps.Step). stepped (Ok i)) j)

pub ruleset gathering = (head-refused, leaf-proper, leaf-number, leaf-size, leaf, slot-fits, gather, as_long, turn-roomy, shallower, out_of-text, holder, key_few, no_key, inner, turn-refused, turn-steps)
