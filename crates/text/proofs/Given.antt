-- The writer's answer to every call, case by case, and with it the paper's table: when each refusal is given.
-- Assumes nothing.
--   Course d s room o   what the answer o is, and why: a case for each line of the paper's table, 6 to 11 and 15 in one, and one for acceptance
--   written_writable, writable_written   a payload is given exactly when the text is writable as it; one-payload: as one only
--   writes_course       the answer to a call is o exactly when o has a course
--   given               a refusal is given exactly when its line of the table says so; line_numbers, given-numbers: no number but the table's is given
--   one_line            no two lines of the table, and no two places, are given for one call
--   given-place         a place is in the text, or 15's at its end
use mathlib.Core.Path.{◌≡◌, refl, sym, ap, ◌∙◌}
use mathlib.Core.Logic.{◌↔◌}
use mathlib.Core.List.{List, [], ◌∷◌}
use mathlib.Core.Bool.{Bool, true, false, not, ◌||◌}
use Prim.Native.Nat.{ℕ, ◌<◌, ◌≤◌}
use native.Mathlib.Omega.{arith}
use lib.ListN.{length}
use lib.Dec.{ltb, leb}
use borrow.Author.Tests.{ltb-true, ltb-false, leb-false, lt-leb}
use Rattle.paper.specs.Limits.{payload_most, text_least, text_most}
use Rattle.paper.specs.Refusals.{dictionary_wrong, length_wrong, not_known, given_twice, not_in_base, misfit, value_wrong, too_deep, after_root, no_room, bad_text}
use Rattle.paper.specs.Tests.{among}
use Rattle.paper.specs.Checks.{choose, Judged, refused, good, need, after}
use Rattle.paper.proofs.Tests.{or_left, or_right, true_so}
use Rattle.dictionary.specs.Accepts.{accepts}
use Rattle.payload.specs.Tree.{Tuples}
use Rattle.payload.specs.Text.{root_count}
use Rattle.payload.specs.Reading.{Outcome, refusal, result, fitted}
use Rattle.payload.proofs.Exactly.{result-text, result_count, no_result}
use Rattle.paper.proofs.Checks.{step}
use Rattle.text.specs.Tokens.{space}
use Rattle.text.specs.Scanning.{past}
use Rattle.text.specs.Shortest.{payload_of}
use Rattle.text.specs.Writing.{root_at, tree_of, spoken, writes}
use Rattle.text.specs.Spots.{Spot}
use Rattle.text.specs.Refusing.{NotKnown, GivenTwice, NotInBase, Misfit, ValueWrong, TooDeep, AtToken, BadText, Somewhere, InTable, Passed, Roomy, Followed, Overlong, Line, line_1, line_2, line_6, line_7, line_8, line_9, line_10, line_11, line_13, line_14, line_15}
use Rattle.text.specs.Writable.{Writable}
use Rattle.text.proofs.Exactly.{writes-written, written-payload, writes-on, writes_complete}
use Rattle.text.proofs.Reaching.{Fails, root-first, root-closed, closed-root, somewhere_late}
use Rattle.text.proofs.Fronting.{tree_right, right-tree, Ended, ended_followed, followed_ended}

-- the two ways of a text that is written
module _ (d s : List ℕ) (room : ℕ) (b : List ℕ) (n : ℕ) where
  pub writable_written : Writable d s room b n → writes d s room ≡ result b n
  writable_written x =
      writes_complete d s room x.passed.accepting x.passed.in_table.least x.passed.in_table.most b n x.says x.roomy.small x.roomy.few
      ∙ ap (λ (u : List ℕ). result u n) x.shortest

  pub written_writable : writes d s room ≡ result b n → Writable d s room b n
  written_writable e =
      let w = writes-written d s room b n e in
      let a = w.answered in
      record {
        passed = record { accepting = w.accepting; in_table = record { least = w.least; most = w.most } };
        says = record { tree = w.tree; spells = a.spells; written = written-payload d s room b n w; fitting = a.fitting; shallow = a.shallow; tuples = w.tuples };
        shortest = w.bytes;
        roomy = record { small = w.small; few = w.few };
      }

pub one-payload : (d s : List ℕ) (room : ℕ) (b b' : List ℕ) (n n' : ℕ) → Writable d s room b n → Writable d s room b' n' → (b ≡ b') × (n ≡ n')
one-payload d s room b b' n n' x y = let e = sym (writable_written d s room b n x) ∙ writable_written d s room b' n' y in (result-text e, result_count e)

module _ (d s : List ℕ) (room : ℕ) where
  pub data Course (o : Outcome) : Type 0 where
    unaccepted : accepts d ≡ false → o ≡ refusal dictionary_wrong 0 → Course o
    unsized : accepts d ≡ true → (InTable s → ⊥) → o ≡ refusal length_wrong 0 → Course o
    faulty : Passed d s → (k w : ℕ) → Somewhere d s (Fails d s k) w → o ≡ refusal k w → Course o
    followed_by : Passed d s → (w : ℕ) → Followed d s w → o ≡ refusal after_root w → Course o
    too_long : Passed d s → Overlong d s room → o ≡ refusal no_room 0 → Course o
    right : (b : List ℕ) (n : ℕ) → Writable d s room b n → o ≡ result b n → Course o

  -- a tree that is too long, or is written
  spoken_course : (p : Passed d s) (q l : ℕ) (t : Tuples) → tree_of d s ≡ good q l t → Course (spoken d room (good q l t))
  unfolding tree_right
  spoken_course p q l t e = go (payload_of t) refl (ltb room (length (payload_of t))) (ltb payload_most (length (payload_of t))) refl refl
    where
      over : (Roomy room (payload_of t) → ⊥) → Overlong d s room
      over h = record { whole = tree_right d p.accepting s q l t e; too_long = h }

      on : writes d s room ≡ spoken d room (good q l t)
      on = writes-on d s room p.accepting p.in_table.least p.in_table.most ∙ ap (spoken d room) e

      fits_in : ltb room (length (payload_of t)) ≡ false → ltb payload_most (length (payload_of t)) ≡ false → spoken d room (good q l t) ≡ result (payload_of t) (root_count d t)
      fits_in f g = rw (f, g)

      go : (u : List ℕ) → payload_of t ≡ u → (a b : Bool) → ltb room (length (payload_of t)) ≡ a → ltb payload_most (length (payload_of t)) ≡ b → Course (spoken d room (good q l t))
      go u i true b f g = too_long p (over λ r. omega (arith, r.small, ltb-true room (length (payload_of t)) f)) (rw f)
      go u i false true f g = too_long p (over λ r. omega (arith, r.few, ltb-true payload_most (length (payload_of t)) g)) (rw (f, g))
      go u i false false f g = right (payload_of t) (root_count d t) (written_writable d s room (payload_of t) (root_count d t) (on ∙ fits_in f g)) (fits_in f g)

  tree_course : Passed d s → Course (spoken d room (tree_of d s))
  unfolding tree_of
  tree_course p = go (root_at d s) refl
    where
      ends : (q l : ℕ) (t : Tuples) → root_at d s ≡ good q l t → (b : Bool) → leb (length s) (past space s q) ≡ b → tree_of d s ≡ need b after_root (past space s q) (λ _. good q 0 t) → Course (spoken d room (need b after_root (past space s q) (λ _. good q 0 t)))
      ends q l t e true f g = spoken_course p q 0 t g
      ends q l t e false f g = followed_by p (past space s q) (ended_followed d p.accepting s (past space s q) (record { from = q; reached = root-closed d s q l t e; place = refl; inside = leb-false (length s) (past space s q) f })) refl

      go : (r : Judged Tuples) → root_at d s ≡ r → Course (spoken d room (after r λ q _ t. need (leb (length s) (past space s q)) after_root (past space s q) λ _. good q 0 t))
      go (refused k w) e = faulty p k w ((root-first d s k w).0 e) refl
      go (good q l t) e = ends q l t e (leb (length s) (past space s q)) refl (rw e)

  pub course : Course (writes d s room)
  unfolding writes
  course = first (accepts d) refl
    where
      second : accepts d ≡ true → (a b : Bool) → ltb (length s) text_least ≡ a → ltb text_most (length s) ≡ b → Course (choose (a || b) (λ _. refusal length_wrong 0) λ _. spoken d room (tree_of d s))
      second h true b e f = unsized h (λ g. omega (arith, g.least, ltb-true (length s) text_least e)) refl
      second h false true e f = unsized h (λ g. omega (arith, g.most, ltb-true text_most (length s) f)) refl
      second h false false e f = tree_course (record { accepting = h; in_table = record { least = ltb-false (length s) text_least e; most = ltb-false text_most (length s) f } })

      first : (b : Bool) → accepts d ≡ b → Course (choose (not b) (λ _. refusal dictionary_wrong 0) λ _. choose (ltb (length s) text_least || ltb text_most (length s)) (λ _. refusal length_wrong 0) λ _. spoken d room (tree_of d s))
      first true e = second e (ltb (length s) text_least) (ltb text_most (length s)) refl refl
      first false e = unaccepted e refl

  -- and back
  on-refused : (k w : ℕ) → Passed d s → tree_of d s ≡ refused k w → writes d s room ≡ refusal k w
  on-refused k w p e = writes-on d s room p.accepting p.in_table.least p.in_table.most ∙ ap (spoken d room) e

  fault_refused : (k w : ℕ) → Somewhere d s (Fails d s k) w → tree_of d s ≡ refused k w
  unfolding tree_of
  fault_refused k w x = rw ((root-first d s k w).1 x)

  ended-refused : (w : ℕ) → Ended d s w → tree_of d s ≡ refused after_root w
  unfolding tree_of
  ended-refused w x =
      let r = closed-root d s x.from x.reached in
      rw (r.2, lt-leb (length s) (past space s x.from) (omega (arith, x.inside, x.place))) (ap (refused after_root) (sym x.place))

  outside : (InTable s → ⊥) → ltb (length s) text_least || ltb text_most (length s) ≡ true
  outside h = true_so _ λ e. h (record { least = ltb-false (length s) text_least (or_left _ _ e); most = ltb-false text_most (length s) (or_right (ltb (length s) text_least) _ e) })

  overfull : (u : List ℕ) → (Roomy room u → ⊥) → ltb room (length u) || ltb payload_most (length u) ≡ true
  overfull u r = true_so _ λ e. r (record { small = ltb-false room (length u) (or_left _ _ e); few = ltb-false payload_most (length u) (or_right (ltb room (length u)) _ e) })

  overlong_refused : Passed d s → Overlong d s room → writes d s room ≡ refusal no_room 0
  overlong_refused p x =
      let o = right-tree d p.accepting s x.whole in
      writes-on d s room p.accepting p.in_table.least p.in_table.most ∙ ap (spoken d room) o.1 ∙ over
    where
      over : fitted room payload_most (payload_of x.whole.tree) (root_count d x.whole.tree) ≡ refusal no_room 0
      over = rw (overfull (payload_of x.whole.tree) x.too_long)

  answered : (o : Outcome) → Course o → writes d s room ≡ o
  unfolding writes
  answered o (unaccepted a f) = rw (a, f)
  answered o (unsized a h f) = rw (a, outside h, f)
  answered o (faulty p k w x f) = on-refused k w p (fault_refused k w x) ∙ sym f
  answered o (followed_by p w x f) = on-refused after_root w p (ended-refused w (followed_ended d p.accepting s w x)) ∙ sym f
  answered o (too_long p x f) = overlong_refused p x ∙ sym f
  answered o (right b n x f) = writable_written d s room b n x ∙ sym f

  pub writes_course : (o : Outcome) → (writes d s room ≡ o) ↔ Course o
  writes_course o = (λ e. rw e at course, answered o)

-- one answer, one number and place
clash : {o : Outcome} {k w k' w' : ℕ} → o ≡ refusal k w → o ≡ refusal k' w' → k ≡ k'
clash e f = cc

same_place : {o : Outcome} {k w k' w' : ℕ} → o ≡ refusal k w → o ≡ refusal k' w' → w ≡ w'
same_place e f = cc

-- the numbers that the table has: 3, 4, 5 and 12 are the reader's alone
abbrev pub text_numbers : List ℕ
text_numbers =
    dictionary_wrong ∷ length_wrong ∷ not_known ∷ given_twice ∷ not_in_base ∷ misfit ∷ value_wrong ∷ too_deep ∷ after_root ∷ no_room ∷ bad_text ∷ []

module _ (d s : List ℕ) (room : ℕ) where
  -- a spot's fault and the line of the table that it is
  late_line : (k w : ℕ) → Passed d s → Somewhere d s (Fails d s k) w → Line d s room k w
  unfolding Fails
  late_line k w p y =
      step k not_known _ _ y.fails (λ e h. line_6 e p (at-spot (AtToken s (NotKnown d)) h)) λ x.
      step k given_twice _ _ x (λ e h. line_7 e p (at-spot (AtToken s (GivenTwice d)) h)) λ x.
      step k not_in_base _ _ x (λ e h. line_8 e p (at-spot (AtToken s (NotInBase d)) h)) λ x.
      step k misfit _ _ x (λ e h. line_9 e p (at-spot (AtToken s (Misfit d)) h)) λ x.
      step k value_wrong _ _ x (λ e h. line_10 e p (at-spot (AtToken s (ValueWrong d)) h)) λ x.
      step k too_deep _ _ x (λ e h. line_11 e p (at-spot (AtToken s (TooDeep d)) h)) λ x.
      step k bad_text _ _ x (λ e h. line_15 e p (at-spot (BadText s) h)) λ x.
      absurd x
    where
      at-spot : (Q : Spot → ℕ → ℕ → Type 0) → Q y.spot y.from w → Somewhere d s Q w
      at-spot Q h = record { spot = y.spot; from = y.from; reached = y.reached; asks = y.asks; fails = h }

  likewise : {P Q : Spot → ℕ → ℕ → Type 0} {w : ℕ} → ((x : Spot) (p : ℕ) → P x p w → Q x p w) → Somewhere d s P w → Somewhere d s Q w
  likewise f y = record { spot = y.spot; from = y.from; reached = y.reached; asks = y.asks; fails = f y.spot y.from y.fails }

  course_line : (o : Outcome) (k w : ℕ) → o ≡ refusal k w → Course d s room o → Line d s room k w
  course_line o k w e c = go c
    where
      moved : (a u : ℕ) → o ≡ refusal a u → Line d s room a u → Line d s room k w
      moved a u f x = rw (clash f e, same_place f e) at x

      go : Course d s room o → Line d s room k w
      go (unaccepted a f) = moved dictionary_wrong 0 f (line_1 refl refl a)
      go (unsized a h f) = moved length_wrong 0 f (line_2 refl refl a h)
      go (faulty p j v x f) = moved j v f (late_line j v p x)
      go (followed_by p v x f) = moved after_root v f (line_13 refl p x)
      go (too_long p x f) = moved no_room 0 f (line_14 refl refl p x)
      go (right b n x f) = no_result (sym e ∙ f)

  line_course : (k w : ℕ) → Line d s room k w → Course d s room (refusal k w)
  unfolding Fails
  line_course k w x = go x
    where
      at : {j v : ℕ} → k ≡ j → w ≡ v → refusal k w ≡ refusal j v
      at e f = rw (e, f)

      go : Line d s room k w → Course d s room (refusal k w)
      go (line_1 e f a) = unaccepted a (at e f)
      go (line_2 e f a h) = unsized a h (at e f)
      go (line_6 e p y) = faulty p k w (likewise (λ x q h. rw e h) y) refl
      go (line_7 e p y) = faulty p k w (likewise (λ x q h. rw e h) y) refl
      go (line_8 e p y) = faulty p k w (likewise (λ x q h. rw e h) y) refl
      go (line_9 e p y) = faulty p k w (likewise (λ x q h. rw e h) y) refl
      go (line_10 e p y) = faulty p k w (likewise (λ x q h. rw e h) y) refl
      go (line_11 e p y) = faulty p k w (likewise (λ x q h. rw e h) y) refl
      go (line_13 e p y) = followed_by p w y (at e refl)
      go (line_14 e f p y) = too_long p y (at e f)
      go (line_15 e p y) = faulty p k w (likewise (λ x q h. rw e h) y) refl

  pub given : (k w : ℕ) → (writes d s room ≡ refusal k w) ↔ Line d s room k w
  given k w = (λ e. course_line (writes d s room) k w e (course d s room), λ x. answered d s room (refusal k w) (line_course k w x))

  pub one_line : (k w k' w' : ℕ) → Line d s room k w → Line d s room k' w' → (k ≡ k') × (w ≡ w')
  one_line k w k' w' x y = let e = (given k w).1 x in let f = (given k' w').1 y in (clash e f, same_place e f)

  -- where the faults stand
  pub given-place : (k w : ℕ) → not_known ≤ k → (k ≡ no_room → ⊥) → writes d s room ≡ refusal k w → (w ≤ length s) × ((k ≡ bad_text → ⊥) → w < length s)
  given-place k w h g e = go (writes d s room) (course d s room) e
    where
      go : (o : Outcome) → Course d s room o → o ≡ refusal k w → (w ≤ length s) × ((k ≡ bad_text → ⊥) → w < length s)
      go o (unaccepted a f) e = absurd (omega (arith, clash e f))
      go o (unsized a i f) e = absurd (omega (arith, clash e f))
      go o (faulty p j v x f) e =
          let l = somewhere_late d s j v x in
          let i = same_place e f in
          (omega (arith, l.high), λ z. omega (arith, l.inside (λ y. z (clash e f ∙ y))))
      go o (followed_by p v x f) e = let i = same_place e f in (omega (arith, x.inside), λ z. omega (arith, x.inside))
      go o (too_long p x f) e = absurd (g (clash e f))
      go o (right b n x f) e = no_result (sym e ∙ f)

  pub line_numbers : (k w : ℕ) → Line d s room k w → among k text_numbers ≡ true
  unfolding among
  line_numbers k w (line_1 e f a) = rw e
  line_numbers k w (line_2 e f a h) = rw e
  line_numbers k w (line_6 e p y) = rw e
  line_numbers k w (line_7 e p y) = rw e
  line_numbers k w (line_8 e p y) = rw e
  line_numbers k w (line_9 e p y) = rw e
  line_numbers k w (line_10 e p y) = rw e
  line_numbers k w (line_11 e p y) = rw e
  line_numbers k w (line_13 e p y) = rw e
  line_numbers k w (line_14 e f p y) = rw e
  line_numbers k w (line_15 e p y) = rw e

  pub given-numbers : (k w : ℕ) → writes d s room ≡ refusal k w → among k text_numbers ≡ true
  given-numbers k w e = line_numbers k w ((given k w).0 e)
