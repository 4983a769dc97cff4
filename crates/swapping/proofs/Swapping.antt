-- Two calls on different numbers may be swapped, where each touches its own number alone.
-- Assumes that: `Touches`, which each call has to show.
use Prim.Native.Nat.{ℕ, ◌+◌, ◌≤◌}
use mathlib.Core.Path.{◌≡◌, sym, ap, ◌∙◌}
use native.Mathlib.Omega.{arith}
use lib.Dec.{eqb}
use borrow.Author.Tests.{eqb-true, eqb-false}
use Rattle.paper.proofs.Tests.{split}
use Rattle.swapping.specs.Calls.{Calls, Good, Finds, Touches, Either}

module _ (C : Calls) where
  -- what a call leaves of every other number, sound or not
  pub own_story : (c : C.Call) → Touches C c → (k : C.Kept) → C.Whole k → (n : ℕ) → (n ≡ C.named c → ⊥) → C.see n (C.next c k) ≡ C.see n k
  own_story c a k w n ne =
      split (C.sound k)
      (λ s. a.others k (record { whole = w; right = s }) n ne)
      (λ s. ap (C.see n) (a.stays k s))

  module _ (f g : C.Call) (a : Touches C f) (b : Touches C g) (ne : C.named f ≡ C.named g → ⊥) (k : C.Kept) (h : Good C k) where
    abbrev F : C.Kept
    F = C.next f k

    abbrev G : C.Kept
    G = C.next g k

    en : C.named g ≡ C.named f → ⊥
    en y = ne (sym y)

    -- the second call meets what there was of its number, and the frame
    same_answer : Finds C f G → Finds C f k → C.answer f G ≡ C.answer f k
    same_answer fg ff =
        a.answers G (b.good k h) fg
        ∙ ap (λ (t : C.Frame). a.decides t (C.see (C.named f) G)) (b.same k h)
        ∙ ap (a.decides (C.frame k)) (b.others k h (C.named f) ne)
        ∙ sym (a.answers k h ff)

    -- and so leaves the same of it
    same_here : Finds C f G → Finds C f k → C.see (C.named f) (C.next g F) ≡ C.see (C.named f) (C.next f G)
    same_here fg ff =
        b.others F (a.good k h) (C.named f) ne
        ∙ a.here k h
        ∙ sym (a.here G (b.good k h)
        ∙ ap (λ (x : C.Answer). a.becomes x (C.see (C.named f) G)) (same_answer fg ff)
        ∙ ap (a.becomes (C.answer f k)) (b.others k h (C.named f) ne))

    same_other : (n : ℕ) → (n ≡ C.named f → ⊥) → (n ≡ C.named g → ⊥) → C.see n (C.next g F) ≡ C.see n (C.next f G)
    same_other n nf ng =
        b.others F (a.good k h) n ng ∙ a.others k h n nf
        ∙ sym (a.others G (b.good k h) n nf ∙ b.others k h n ng)

    same-frame : C.frame (C.next g F) ≡ C.frame (C.next f G)
    same-frame = b.same F (a.good k h) ∙ a.same k h ∙ sym (a.same G (b.good k h) ∙ b.same k h)

  module _ (f g : C.Call) (a : Touches C f) (b : Touches C g) (ne : C.named f ≡ C.named g → ⊥) (k : C.Kept) where
    commutes : Good C k → C.opens f + C.opens g ≤ C.vacant k → Either C f g k
    commutes h room =
        let x = a.fills k h in
        let y = b.fills k h in
        let en : C.named g ≡ C.named f → ⊥ = λ e. ne (sym e) in
        record {
          first = same_answer f g a b ne k h (omega arith) (omega arith);
          second = same_answer g f b a en k h (omega arith) (omega arith);
          after = λ n.
              split (eqb n (C.named f))
              (λ t. rw (eqb-true n (C.named f) t) (same_here f g a b ne k h (omega arith) (omega arith)))
              (λ t. split (eqb n (C.named g))
              (λ u. rw (eqb-true n (C.named g) u) (sym (same_here g f b a en k h (omega arith) (omega arith))))
              (λ u. same_other f g a b ne k h n (eqb-false n (C.named f) t) (eqb-false n (C.named g) u)));
          frame = same-frame f g a b ne k h;
        }

    pub swap : C.Whole k → C.opens f + C.opens g ≤ C.vacant k → Either C f g k
    swap w room =
        split (C.sound k)
        (λ s. commutes (record { whole = w; right = s }) room)
        (λ s. record {
          first = ap (C.answer f) (b.stays k s);
          second = ap (C.answer g) (a.stays k s);
          after = λ n. ap (C.see n) (ap (C.next g) (a.stays k s) ∙ b.stays k s ∙ sym (ap (C.next f) (b.stays k s) ∙ a.stays k s));
          frame = ap C.frame (ap (C.next g) (a.stays k s) ∙ b.stays k s ∙ sym (ap (C.next f) (b.stays k s) ∙ a.stays k s));
        })
