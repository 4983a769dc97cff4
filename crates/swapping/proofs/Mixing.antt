-- Any mixing: two orders of the same calls that keep each number's own in order, with a place empty at every open, come to the same.
-- In such a run the answers to one number, and what is seen of it after, follow from that number's own calls alone; and in any run what is seen of a
-- number follows from its own calls and their answers.
-- Assumes that each call touches its own number alone: `Touches`.
use Prim.Native.Nat.{ℕ}
use mathlib.Core.Path.{◌≡◌, refl, sym, ap, ◌∙◌}
use mathlib.Core.Bool.{false}
use mathlib.Core.List.{List, [], ◌∷◌, map}
use lib.Dec.{eqb}
use borrow.Author.Tests.{eqb-true, eqb-false}
use Rattle.swapping.specs.Calls.{Calls, Good, Finds, Touches, run, answers_to, own, Roomy, Alike}
use Rattle.paper.proofs.Tests.{split}

module _ (C : Calls) (touches : (c : C.Call) → Touches C c) where
  -- one number's own calls, made on what there is of it: the answers, and what there is after
  unfoldable pub answers_alone : C.Frame → C.Seen → List C.Call → List C.Answer
  answers_alone b v [] = []
  answers_alone b v (c ∷ cs) = (touches c).decides b v ∷ answers_alone b ((touches c).becomes ((touches c).decides b v) v) cs

  unfoldable pub seen_alone : C.Frame → C.Seen → List C.Call → C.Seen
  seen_alone b v [] = v
  seen_alone b v (c ∷ cs) = seen_alone b ((touches c).becomes ((touches c).decides b v) v) cs

  -- what there is after calls and their answers
  unfoldable pub seen_after : C.Seen → List C.Call → List C.Answer → C.Seen
  seen_after v [] as' = v
  seen_after v (c ∷ cs) [] = v
  seen_after v (c ∷ cs) (a ∷ as') = seen_after ((touches c).becomes a v) cs as'

  -- what a call on the number n answers and leaves of it
  says : (n : ℕ) (c : C.Call) (k : C.Kept) → Good C k → Finds C c k → C.named c ≡ n → C.answer c k ≡ (touches c).decides (C.frame k) (C.see n k)
  says n c k g f e = rw (← e) ((touches c).answers k g f)

  leaves : (n : ℕ) (c : C.Call) (k : C.Kept) → Good C k → C.named c ≡ n → C.see n (C.next c k) ≡ (touches c).becomes (C.answer c k) (C.see n k)
  leaves n c k g e = rw (← e) ((touches c).here k g)

  -- a call on another number leaves it
  passes : (n : ℕ) (c : C.Call) (k : C.Kept) → Good C k → (C.named c ≡ n → ⊥) → C.see n (C.next c k) ≡ C.see n k
  passes n c k g ne = (touches c).others k g n (λ y. ne (sym y))

  answers_mine : (n : ℕ) (c : C.Call) (k : C.Kept) (g : Good C k) → Finds C c k → C.named c ≡ n → (as' : List C.Answer) (cs : List C.Call)
      → as' ≡ answers_alone (C.frame (C.next c k)) (C.see n (C.next c k)) cs → C.answer c k ∷ as' ≡ answers_alone (C.frame k) (C.see n k) (c ∷ cs)
  unfolding answers_alone
  answers_mine n c k g f e as' cs h = rw (h, (touches c).same k g, leaves n c k g e, says n c k g f e)

  answers_other : (n : ℕ) (c : C.Call) (k : C.Kept) (g : Good C k) → (C.named c ≡ n → ⊥) → (as' : List C.Answer) (cs : List C.Call)
      → as' ≡ answers_alone (C.frame (C.next c k)) (C.see n (C.next c k)) cs → as' ≡ answers_alone (C.frame k) (C.see n k) cs
  answers_other n c k g ne as' cs h = rw (h, (touches c).same k g, passes n c k g ne)

  pub answers-alone : (n : ℕ) (cs : List C.Call) (k : C.Kept) → Good C k → Roomy C k cs → answers_to C n k cs ≡ answers_alone (C.frame k) (C.see n k) (own C n cs)
  unfolding answers_to own answers_alone
  answers-alone n [] k g r = refl
  answers-alone n (c ∷ cs) k g r =
      let ih = answers-alone n cs (C.next c k) ((touches c).good k g) r.1 in
      split (eqb (C.named c) n)
      (λ t. rw t (answers_mine n c k g r.0 (eqb-true (C.named c) n t) _ (own C n cs) ih))
      (λ t. rw t (answers_other n c k g (eqb-false (C.named c) n t) _ (own C n cs) ih))

  seen_mine : (n : ℕ) (c : C.Call) (k : C.Kept) (g : Good C k) → Finds C c k → C.named c ≡ n → (v : C.Seen) (cs : List C.Call)
      → v ≡ seen_alone (C.frame (C.next c k)) (C.see n (C.next c k)) cs → v ≡ seen_alone (C.frame k) (C.see n k) (c ∷ cs)
  unfolding seen_alone
  seen_mine n c k g f e v cs h = rw (h, (touches c).same k g, leaves n c k g e, says n c k g f e)

  seen_other : (n : ℕ) (c : C.Call) (k : C.Kept) (g : Good C k) → (C.named c ≡ n → ⊥) → (v : C.Seen) (cs : List C.Call)
      → v ≡ seen_alone (C.frame (C.next c k)) (C.see n (C.next c k)) cs → v ≡ seen_alone (C.frame k) (C.see n k) cs
  seen_other n c k g ne v cs h = rw (h, (touches c).same k g, passes n c k g ne)

  pub seen-alone : (n : ℕ) (cs : List C.Call) (k : C.Kept) → Good C k → Roomy C k cs → C.see n (run C k cs) ≡ seen_alone (C.frame k) (C.see n k) (own C n cs)
  unfolding run own seen_alone
  seen-alone n [] k g r = refl
  seen-alone n (c ∷ cs) k g r =
      let ih = seen-alone n cs (C.next c k) ((touches c).good k g) r.1 in
      split (eqb (C.named c) n)
      (λ t. rw t (seen_mine n c k g r.0 (eqb-true (C.named c) n t) _ (own C n cs) ih))
      (λ t. rw t (seen_other n c k g (eqb-false (C.named c) n t) _ (own C n cs) ih))

  after_mine : (n : ℕ) (c : C.Call) (k : C.Kept) (g : Good C k) → C.named c ≡ n → (v : C.Seen) (cs : List C.Call) (as' : List C.Answer)
      → v ≡ seen_after (C.see n (C.next c k)) cs as' → v ≡ seen_after (C.see n k) (c ∷ cs) (C.answer c k ∷ as')
  unfolding seen_after
  after_mine n c k g e v cs as' h = rw (h, leaves n c k g e)

  after_other : (n : ℕ) (c : C.Call) (k : C.Kept) (g : Good C k) → (C.named c ≡ n → ⊥) → (v : C.Seen) (cs : List C.Call) (as' : List C.Answer)
      → v ≡ seen_after (C.see n (C.next c k)) cs as' → v ≡ seen_after (C.see n k) cs as'
  after_other n c k g ne v cs as' h = rw (h, passes n c k g ne)

  -- room or not: what is seen of a number is what its own calls and their answers make of it
  pub seen-after : (n : ℕ) (cs : List C.Call) (k : C.Kept) → Good C k → C.see n (run C k cs) ≡ seen_after (C.see n k) (own C n cs) (answers_to C n k cs)
  unfolding run own answers_to seen_after
  seen-after n [] k g = refl
  seen-after n (c ∷ cs) k g =
      let ih = seen-after n cs (C.next c k) ((touches c).good k g) in
      split (eqb (C.named c) n)
      (λ t. rw t (after_mine n c k g (eqb-true (C.named c) n t) _ (own C n cs) (answers_to C n (C.next c k) cs) ih))
      (λ t. rw t (after_other n c k g (eqb-false (C.named c) n t) _ (own C n cs) (answers_to C n (C.next c k) cs) ih))

  same-frame : (cs : List C.Call) (k : C.Kept) → Good C k → C.frame (run C k cs) ≡ C.frame k
  unfolding run
  same-frame [] k g = refl
  same-frame (c ∷ cs) k g = same-frame cs (C.next c k) ((touches c).good k g) ∙ (touches c).same k g

  -- what is kept is not sound: nothing changes, and every call is refused
  answers_unsound : (n : ℕ) (cs : List C.Call) (k : C.Kept) → C.sound k ≡ false → answers_to C n k cs ≡ map (λ c. (touches c).refusal) (own C n cs)
  unfolding answers_to own
  answers_unsound n [] k s = refl
  answers_unsound n (c ∷ cs) k s =
      split (eqb (C.named c) n)
      (λ t. rw (t, (touches c).stays k s, (touches c).refused k s, answers_unsound n cs k s))
      (λ t. rw (t, (touches c).stays k s, answers_unsound n cs k s))

  run_unsound : (cs : List C.Call) (k : C.Kept) → C.sound k ≡ false → run C k cs ≡ k
  unfolding run
  run_unsound [] k s = refl
  run_unsound (c ∷ cs) k s = rw ((touches c).stays k s) (run_unsound cs k s)

  pub mixing : (k : C.Kept) → C.Whole k → (cs ds : List C.Call) → ((n : ℕ) → own C n cs ≡ own C n ds) → Roomy C k cs → Roomy C k ds → Alike C k cs ds
  mixing k w cs ds same a b =
      split (C.sound k)
      (λ s.
      let g : Good C k = record { whole = w; right = s } in
      record {
        answers = λ n. answers-alone n cs k g a ∙ ap (answers_alone (C.frame k) (C.see n k)) (same n) ∙ sym (answers-alone n ds k g b);
        after = λ n. seen-alone n cs k g a ∙ ap (seen_alone (C.frame k) (C.see n k)) (same n) ∙ sym (seen-alone n ds k g b);
        frame = same-frame cs k g ∙ sym (same-frame ds k g);
      })
      (λ s. record {
        answers = λ n. answers_unsound n cs k s ∙ ap (map (λ c. (touches c).refusal)) (same n) ∙ sym (answers_unsound n ds k s);
        after = λ n. ap (C.see n) (run_unsound cs k s ∙ sym (run_unsound ds k s));
        frame = ap C.frame (run_unsound cs k s ∙ sym (run_unsound ds k s));
      })
