-- The reader's answer to every call, case by case, and with it the paper's table: when each refusal is given.
-- Assumes nothing.
--   Course d s budget room o    what the answer o is, and why: a case for each line of the paper's table, 4 to 12 in one, and one for acceptance
--   reads_course                the answer to a call is o exactly when o has a course
--   given                       a refusal is given exactly when its line of the table says so; given-1 .. given-14: the lines written out
--   one_line                    no two lines of the table, and no two places, are given for one call
--   given-place                 4 to 12 stand from the header's end to the payload's
use mathlib.Core.Path.{◌≡◌, refl, sym, ap, ◌∙◌}
use mathlib.Core.Logic.{◌↔◌}
use mathlib.Core.List.{List}
use mathlib.Core.Bool.{Bool, true, false, not, ◌||◌}
use Prim.Native.Nat.{ℕ, ◌-◌, ◌<◌, ◌≤◌}
use native.Mathlib.Omega.{arith}
use lib.ListN.{length}
use lib.Dec.{ltb, eqb}
use borrow.Author.Tests.{ltb-true, ltb-false, le-ltb, eqb-false, ne_eqb}
use Rattle.paper.specs.Limits.{payload_least, payload_most, text_most}
use Rattle.paper.specs.Refusals.{dictionary_wrong, length_wrong, header_differs, past_end, budget_spent, after_root, no_room}
use Rattle.paper.specs.Checks.{choose, Judged, refused, good, need, after}
use Rattle.paper.proofs.Tests.{or_left, or_right, not_so, true_so, so_not}
use Rattle.numbers.specs.Bytes.{Bytes}
use Rattle.dictionary.specs.Accepts.{accepts}
use Rattle.payload.specs.Tree.{Tuples}
use Rattle.payload.specs.Header.{header_agrees}
use Rattle.payload.specs.Text.{root_text, root_count, Means}
use Rattle.payload.specs.Reading.{root_at, tree_of, Outcome, refusal, result, fitted, spoken, reads}
use Rattle.payload.specs.Reached.{Spot, Somewhere}
use Rattle.payload.specs.Refusing.{InTable, WithHeader, Passed, Front, Roomy, PastEnd, WidthWrong, NotKnown, GivenTwice, NotInBase, Misfit, ValueWrong, TooDeep, BudgetSpent, Line, line_1, line_2, line_3, line_4, line_5, line_6, line_7, line_8, line_9, line_10, line_11, line_12, line_13, line_14}
use Rattle.payload.proofs.Faults.{Fails, fails_4, fails_5, fails_6, fails_7, fails_8, fails_9, fails_10, fails_11, fails_12}
use Rattle.payload.proofs.Root.{headed-fine, fine-headed, root_complete, root-sound}
use Rattle.payload.proofs.Exactly.{payload_rooted, rooted_payload, tree-sound, tree_complete, reads_on, reads_complete, no_result}
use Rattle.payload.proofs.First.{root-first}
use Rattle.payload.proofs.Placed.{Late, Placed, placed-refused, root-placed}

module _ (d s : List ℕ) (budget room : ℕ) where
  pub data Course (o : Outcome) : Type 0 where
    unaccepted : accepts d ≡ false → o ≡ refusal dictionary_wrong 0 → Course o
    unsized : accepts d ≡ true → (InTable s → ⊥) → o ≡ refusal length_wrong 0 → Course o
    unheaded : accepts d ≡ true → InTable s → (WithHeader s → ⊥) → o ≡ refusal header_differs 0 → Course o
    faulty : Passed d s → (k w : ℕ) → Late payload_least (length s) k w → Somewhere d s budget (Fails d s k) w → o ≡ refusal k w → Course o
    followed_by : Passed d s → (z : ℕ) → z < length s → Front d s budget z → o ≡ refusal after_root z → Course o
    too_long : Passed d s → (t : List ℕ) (n : ℕ) → Means d s t n → n ≤ budget → (Roomy room t → ⊥) → o ≡ refusal no_room 0 → Course o
    right : Passed d s → (t : List ℕ) (n : ℕ) → Means d s t n → n ≤ budget → Roomy room t → o ≡ result t n → Course o

  module _ (hb : Bytes s) where
    spoken_course : Passed d s → (z l : ℕ) (t : Tuples) → tree_of d s budget ≡ good z l t → Course (spoken d room (good z l t))
    spoken_course p z l t e =
        let y = tree-sound d s budget z l t hb p.in_table.least (headed-fine s p.headed) e in
        let u = root_text d t in
        let m : Means d s u (root_count d t) = record { tree = t; written = y.written; fitting = y.fitting; shallow = y.shallow; text = refl; tuples = refl } in
        go u m (ltb room (length u)) (ltb text_most (length u)) refl refl (omega (arith, y.spent))
      where
        go : (u : List ℕ) → Means d s u (root_count d t) → (a b : Bool) → ltb room (length u) ≡ a → ltb text_most (length u) ≡ b → root_count d t ≤ budget → Course (choose (a || b) (λ _. refusal no_room 0) (λ _. result u (root_count d t)))
        go u m true b e f h = too_long p u (root_count d t) m h (λ r. omega (arith, r.small, ltb-true room (length u) e)) refl
        go u m false true e f h = too_long p u (root_count d t) m h (λ r. omega (arith, r.few, ltb-true text_most (length u) f)) refl
        go u m false false e f h = right p u (root_count d t) m h (record { small = ltb-false room (length u) e; few = ltb-false text_most (length u) f }) refl

    tree_course : Passed d s → Course (spoken d room (tree_of d s budget))
    unfolding tree_of Placed
    tree_course p = go (root_at d s budget) refl (root-placed d s budget p.in_table.least)
      where
        ends : (z l : ℕ) (t : Tuples) → root_at d s budget ≡ good z l t → z ≤ length s → (b : Bool) → eqb z (length s) ≡ b → tree_of d s budget ≡ need b after_root z (λ _. good z l t) → Course (spoken d room (need b after_root z (λ _. good z l t)))
        ends z l t e h true f g = spoken_course p z l t g
        ends z l t e h false f g =
            let y = root-sound d s budget z l t hb e in
            followed_by p z (below z (eqb-false z (length s) f) h)
            (record { text = root_text d t; tuples = root_count d t; means = record { tree = t; written = rooted_payload d s z t budget l hb p.in_table.least (headed-fine s p.headed) y; fitting = y.fitting; shallow = y.shallow; text = refl; tuples = refl }; enough = omega (arith, y.spent) }) refl
          where
            below : (z : ℕ) → (z ≡ length s → ⊥) → z ≤ length s → z < length s
            below z a b = omega arith

        go : (r : Judged Tuples) → root_at d s budget ≡ r → Placed payload_least (length s) r → Course (spoken d room (after r λ z l t. need (eqb z (length s)) after_root z λ _. good z l t))
        go (refused k w) e h = faulty p k w h ((root-first d s budget hb k w).0 e) refl
        go (good z l t) e h = ends z l t e h.1 (eqb z (length s)) refl (rw e)

    pub course : Course (reads d s budget room)
    unfolding reads
    course = first (accepts d) refl
      where
        third : accepts d ≡ true → InTable s → (b : Bool) → header_agrees s ≡ b → Course (choose (not b) (λ _. refusal header_differs 0) (λ _. spoken d room (tree_of d s budget)))
        third a h true e = tree_course (record { accepting = a; in_table = h; headed = fine-headed s h.least e })
        third a h false e = unheaded a h (λ g. so_not (header_agrees s) e (headed-fine s g)) refl

        second : accepts d ≡ true → (a b : Bool) → ltb (length s) payload_least ≡ a → ltb payload_most (length s) ≡ b → Course (choose (a || b) (λ _. refusal length_wrong 0) λ _. choose (not (header_agrees s)) (λ _. refusal header_differs 0) λ _. spoken d room (tree_of d s budget))
        second h true b e f = unsized h (λ g. omega (arith, g.least, ltb-true (length s) payload_least e)) refl
        second h false true e f = unsized h (λ g. omega (arith, g.most, ltb-true payload_most (length s) f)) refl
        second h false false e f = third h (record { least = ltb-false (length s) payload_least e; most = ltb-false payload_most (length s) f }) (header_agrees s) refl

        first : (b : Bool) → accepts d ≡ b → Course (choose (not b) (λ _. refusal dictionary_wrong 0) λ _. choose (ltb (length s) payload_least || ltb payload_most (length s)) (λ _. refusal length_wrong 0) λ _. choose (not (header_agrees s)) (λ _. refusal header_differs 0) λ _. spoken d room (tree_of d s budget))
        first true e = second e (ltb (length s) payload_least) (ltb payload_most (length s)) refl refl
        first false e = unaccepted e refl

-- bytes that follow a payload are refused
front-refused : (d s : List ℕ) (budget z : ℕ) → Front d s budget z → z < length s → tree_of d s budget ≡ refused after_root z
unfolding tree_of
front-refused d s budget z x h =
    let m = x.means in
    let l = budget - root_count d m.tree in
    let r = root_complete d s budget z l m.tree (payload_rooted d s z m.tree budget l (omega arith) m.written m.fitting m.shallow (omega (arith, x.enough, m.tuples))) in
    rw (r, ne_eqb z (length s) (λ e. omega arith))

fault_refused : (d s : List ℕ) (budget k w : ℕ) → Bytes s → Somewhere d s budget (Fails d s k) w → tree_of d s budget ≡ refused k w
unfolding tree_of
fault_refused d s budget k w hb x = rw ((root-first d s budget hb k w).1 x)

outside : (s : List ℕ) → (InTable s → ⊥) → ltb (length s) payload_least || ltb payload_most (length s) ≡ true
outside s h = true_so _ λ e. h (record { least = ltb-false (length s) payload_least (or_left _ _ e); most = ltb-false payload_most (length s) (or_right (ltb (length s) payload_least) _ e) })

overfull : (room : ℕ) (t : List ℕ) → (Roomy room t → ⊥) → ltb room (length t) || ltb text_most (length t) ≡ true
overfull room t r = true_so _ λ e. r (record { small = ltb-false room (length t) (or_left _ _ e); few = ltb-false text_most (length t) (or_right (ltb room (length t)) _ e) })

-- no answer has another course
answered : (d s : List ℕ) (budget room : ℕ) → Bytes s → (o : Outcome) → Course d s budget room o → reads d s budget room ≡ o
unfolding reads
answered d s budget room hb o (unaccepted a f) = rw (a, f)
answered d s budget room hb o (unsized a h f) = rw (a, outside s h, f)
answered d s budget room hb o (unheaded a h g f) = rw (a, le-ltb (length s) payload_least h.least, le-ltb payload_most (length s) h.most, not_so (header_agrees s) (λ e. g (fine-headed s h.least e)), f)
answered d s budget room hb o (faulty p k w l x f) = reads_on d s budget room p ∙ ap (spoken d room) (fault_refused d s budget k w hb x) ∙ sym f
answered d s budget room hb o (followed_by p z h x f) = reads_on d s budget room p ∙ ap (spoken d room) (front-refused d s budget z x h) ∙ sym f
answered d s budget room hb o (too_long p t n m b r f) =
    let y = tree_complete d s budget m.tree m.written m.fitting m.shallow (omega (arith, m.tuples)) in
    reads_on d s budget room p ∙ ap (spoken d room) y.1 ∙ over (root_text d m.tree) (root_count d m.tree) m.text ∙ sym f
  where
    over : (u : List ℕ) (k : ℕ) → u ≡ t → fitted room text_most u k ≡ refusal no_room 0
    over u k i = rw (i, overfull room t r)
answered d s budget room hb o (right p t n m b r f) = reads_complete d s budget room t n p.accepting p.in_table.least p.in_table.most m b r.small r.few ∙ sym f

pub reads_course : (d s : List ℕ) (budget room : ℕ) → Bytes s → (o : Outcome) → (reads d s budget room ≡ o) ↔ Course d s budget room o
reads_course d s budget room hb o = (λ e. rw e at (course d s budget room hb), answered d s budget room hb o)

-- one answer, one number and place
clash : {o : Outcome} {k w k' w' : ℕ} → o ≡ refusal k w → o ≡ refusal k' w' → k ≡ k'
clash e f = cc

same_place : {o : Outcome} {k w k' w' : ℕ} → o ≡ refusal k w → o ≡ refusal k' w' → w ≡ w'
same_place e f = cc

-- a tuple's fault and the line of the table that it is
module _ (d s : List ℕ) (budget room : ℕ) where
  likewise : {P Q : Spot → Type 0} {w : ℕ} → ((x : Spot) → P x → Q x) → Somewhere d s budget P w → Somewhere d s budget Q w
  likewise f y = record { spot = y.spot; reached = y.reached; fails = f y.spot y.fails; place = y.place }

  at-spot : {P : Spot → Type 0} {w : ℕ} (y : Somewhere d s budget P w) (Q : Spot → Type 0) → Q y.spot → Somewhere d s budget Q w
  at-spot y Q h = record { spot = y.spot; reached = y.reached; fails = h; place = y.place }

  late_line : (k w : ℕ) → Passed d s → Somewhere d s budget (Fails d s k) w → Line d s budget room k w
  late_line k w p y = go y.fails
    where
      go : Fails d s k y.spot → Line d s budget room k w
      go (fails_4 e h) = line_4 e p (at-spot y (PastEnd s) h)
      go (fails_5 e h) = line_5 e p (at-spot y (WidthWrong s) h)
      go (fails_6 e h) = line_6 e p (at-spot y (NotKnown s) h)
      go (fails_7 e h) = line_7 e p (at-spot y (GivenTwice s) h)
      go (fails_8 e h) = line_8 e p (at-spot y (NotInBase s) h)
      go (fails_9 e h) = line_9 e p (at-spot y (Misfit s) h)
      go (fails_10 e h) = line_10 e p (at-spot y (ValueWrong d s) h)
      go (fails_11 e h) = line_11 e p (at-spot y (TooDeep s) h)
      go (fails_12 e h) = line_12 e p (at-spot y BudgetSpent h)

  course_line : (o : Outcome) (k w : ℕ) → o ≡ refusal k w → Course d s budget room o → Line d s budget room k w
  course_line o k w e c = go c
    where
      moved : (a u : ℕ) → o ≡ refusal a u → Line d s budget room a u → Line d s budget room k w
      moved a u f x = rw (clash f e, same_place f e) at x

      go : Course d s budget room o → Line d s budget room k w
      go (unaccepted a f) = moved dictionary_wrong 0 f (line_1 refl refl a)
      go (unsized a h f) = moved length_wrong 0 f (line_2 refl refl a h)
      go (unheaded a h g f) = moved header_differs 0 f (line_3 refl refl a h g)
      go (faulty p j v l x f) = moved j v f (late_line j v p x)
      go (followed_by p z h x f) = moved after_root z f (line_13 refl p h x)
      go (too_long p t n m b r f) = moved no_room 0 f (line_14 refl refl p (record { text = t; tuples = n; means = m; enough = b; too_long = r }))
      go (right p t n m b r f) = no_result (sym e ∙ f)

  line_course : (k w : ℕ) → Line d s budget room k w → Bytes s → Course d s budget room (refusal k w)
  line_course k w x hb = go x
    where
      at : {j v : ℕ} → k ≡ j → w ≡ v → refusal k w ≡ refusal j v
      at e f = rw (e, f)

      late : Passed d s → Somewhere d s budget (Fails d s k) w → Course d s budget room (refusal k w)
      late p y = faulty p k w (placed-refused payload_least (length s) k w (root_at d s budget) (root-placed d s budget p.in_table.least) ((root-first d s budget hb k w).1 y)) y refl

      go : Line d s budget room k w → Course d s budget room (refusal k w)
      go (line_1 e f a) = unaccepted a (at e f)
      go (line_2 e f a h) = unsized a h (at e f)
      go (line_3 e f a h g) = unheaded a h g (at e f)
      go (line_4 e p y) = late p (likewise (λ x h. fails_4 e h) y)
      go (line_5 e p y) = late p (likewise (λ x h. fails_5 e h) y)
      go (line_6 e p y) = late p (likewise (λ x h. fails_6 e h) y)
      go (line_7 e p y) = late p (likewise (λ x h. fails_7 e h) y)
      go (line_8 e p y) = late p (likewise (λ x h. fails_8 e h) y)
      go (line_9 e p y) = late p (likewise (λ x h. fails_9 e h) y)
      go (line_10 e p y) = late p (likewise (λ x h. fails_10 e h) y)
      go (line_11 e p y) = late p (likewise (λ x h. fails_11 e h) y)
      go (line_12 e p y) = late p (likewise (λ x h. fails_12 e h) y)
      go (line_13 e p h y) = followed_by p w h y (at e refl)
      go (line_14 e f p y) = too_long p y.text y.tuples y.means y.enough y.too_long (at e f)

  pub given : Bytes s → (k w : ℕ) → (reads d s budget room ≡ refusal k w) ↔ Line d s budget room k w
  given hb k w = (λ e. course_line (reads d s budget room) k w e (course d s budget room hb), λ x. answered d s budget room hb (refusal k w) (line_course k w x hb))

  pub one_line : Bytes s → (k w k' w' : ℕ) → Line d s budget room k w → Line d s budget room k' w' → (k ≡ k') × (w ≡ w')
  one_line hb k w k' w' x y = let e = (given hb k w).1 x in let f = (given hb k' w').1 y in (clash e f, same_place e f)

  -- where a tuple's faults stand
  pub given-place : Bytes s → (k w : ℕ) → past_end ≤ k → k ≤ budget_spent → reads d s budget room ≡ refusal k w → (payload_least ≤ w) × (w ≤ length s)
  given-place hb k w low high e = go (reads d s budget room) (course d s budget room hb) e
    where
      go : (o : Outcome) → Course d s budget room o → o ≡ refusal k w → (payload_least ≤ w) × (w ≤ length s)
      go o (unaccepted a f) e = absurd (omega (arith, clash e f))
      go o (unsized a h f) e = absurd (omega (arith, clash e f))
      go o (unheaded a h g f) e = absurd (omega (arith, clash e f))
      go o (faulty p j v l x f) e = let c = same_place e f in (omega (arith, l.low), omega (arith, l.high))
      go o (followed_by p z h x f) e = absurd (omega (arith, clash e f))
      go o (too_long p t n m b r f) e = absurd (omega (arith, clash e f))
      go o (right p t n m b r f) e = no_result (sym e ∙ f)
