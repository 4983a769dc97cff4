-- Laws of the tests: `&&` and `||` by their parts, `all` at each number and step by step as a loop goes, `same` as equality and as the code's `==`.
-- Assumes nothing.
use Prim.Native.Nat.{ℕ, zero, suc, ◌+◌, ◌-◌, ◌≤◌, ◌<◌}
use mathlib.Core.Path.{◌≡◌, refl, sym, ap, ◌∙◌}
use mathlib.Core.List.{List, [], ◌∷◌}
use mathlib.Core.Bool.{Bool, true, false, not, ◌&&◌, ◌||◌, true≢false}
use native.Mathlib.Omega.{arith}
use native.Mathlib.Numerals.{add-one}
use lib.Dec.{eqb}
use lib.ListN.{get_or, take, drop}
use lib.Pointwise.{pointwise}
use lib.Seq.{slice, get_or-take, get_or-drop}
use Rattle.std.proofs.lemmas.Slice.{between_is}
use borrow.Author.Tests.{eqb-true, eqb-false, eq-eqb, not-true, not-false}
use Rattle.paper.specs.Tests.{all, same, Passing}

pub and_left : (a b : Bool) → a && b ≡ true → a ≡ true
and_left true b e = refl
and_left false b e = e

pub and_right : (a b : Bool) → a && b ≡ true → b ≡ true
and_right true b e = e
and_right false b e = absurd (true≢false (sym e))

pub and_both : (a b : Bool) → a ≡ true → b ≡ true → a && b ≡ true
and_both a b e f = rw (e, f)

pub and-not-left : (a b : Bool) → a ≡ false → a && b ≡ false
and-not-left a b e = rw e

pub and-not-right : (a b : Bool) → b ≡ false → a && b ≡ false
and-not-right true b e = e
and-not-right false b e = refl

pub or_left : (a b : Bool) → a || b ≡ false → a ≡ false
or_left true b e = e
or_left false b e = refl

pub or_right : (a b : Bool) → a || b ≡ false → b ≡ false
or_right true b e = absurd (true≢false e)
or_right false b e = e

pub or-none : (a : Bool) → a || false ≡ a
or-none true = refl
or-none false = refl

-- by a test and its two outcomes
pub split : {A : Type 0} (t : Bool) → (t ≡ true → A) → (t ≡ false → A) → A
split true f g = f refl
split false f g = g refl

-- two tests are equal where each follows from the other
pub both_ways : (a b : Bool) → (a ≡ true → b ≡ true) → (b ≡ true → a ≡ true) → a ≡ b
both_ways true b f g = sym (f refl)
both_ways false true f g = g refl
both_ways false false f g = refl

pub not_so : (a : Bool) → (a ≡ true → ⊥) → a ≡ false
not_so true f = absurd (f refl)
not_so false f = refl

pub true_so : (a : Bool) → (a ≡ false → ⊥) → a ≡ true
true_so true f = refl
true_so false f = absurd (f refl)

pub so_not : (a : Bool) → a ≡ false → a ≡ true → ⊥
so_not a f e = true≢false (sym e ∙ f)

module _ (P : ℕ → Bool) where
  pub all_none : all 0 P ≡ true
  unfolding all
  all_none = refl

  pub all-suc : (n : ℕ) → all (n + 1) P ≡ all n P && P n
  unfolding all
  all-suc n = rw add-one

  pub all_more : (n : ℕ) → all n P ≡ true → P n ≡ true → all (n + 1) P ≡ true
  all_more n e f = all-suc n ∙ and_both _ _ e f

  pub all-at : (n : ℕ) → all n P ≡ true → (k : ℕ) → k < n → P k ≡ true
  unfolding all
  all-at zero e k h = absurd (omega arith)
  all-at (suc n) e k h = go (eqb k n) refl (λ g. all-at n (and_left (all n P) (P n) e) k g)
    where
      go : (t : Bool) → eqb k n ≡ t → (k < n → P k ≡ true) → P k ≡ true
      go true f below = ap P (eqb-true k n f) ∙ and_right (all n P) (P n) e
      go false f below = let g = eqb-false k n f in below (omega (arith, g))

  pub all-fails : (n k : ℕ) → k < n → P k ≡ false → all n P ≡ false
  all-fails n k h f = not_so (all n P) λ e. so_not (P k) f (all-at n e k h)

  pub all_of : (n : ℕ) → ((k : ℕ) → k < n → P k ≡ true) → all n P ≡ true
  unfolding all
  all_of zero f = refl
  all_of (suc n) f = and_both _ _ (all_of n λ k h. f k (omega arith)) (f n (omega arith))

pub all_both : (P Q : ℕ → Bool) (n : ℕ) → all n (λ k. P k && Q k) ≡ all n P && all n Q
all_both P Q n = both_ways _ _
    (λ e.
    and_both _ _ (all_of P n λ k h. and_left _ _ (all-at (λ k. P k && Q k) n e k h))
    (all_of Q n λ k h. and_right (P k) (Q k) (all-at (λ k. P k && Q k) n e k h)))
    (λ e. all_of (λ k. P k && Q k) n λ k h. and_both _ _ (all-at P n (and_left _ _ e) k h) (all-at Q n (and_right (all n P) (all n Q) e) k h))

pub same_refl : (a : List ℕ) → same a a ≡ true
unfolding same
same_refl [] = refl
same_refl (x ∷ a) = rw (eq-eqb x x refl, same_refl a)

pub same_true : (a b : List ℕ) → same a b ≡ true → a ≡ b
unfolding same
same_true [] [] e = refl
same_true [] (y ∷ b) e = absurd (true≢false (sym e))
same_true (x ∷ a) [] e = absurd (true≢false (sym e))
same_true (x ∷ a) (y ∷ b) e =
    rw (eqb-true x y (and_left (eqb x y) (same a b) e), same_true a b (and_right (eqb x y) (same a b) e))

pub same_eq : (a b : List ℕ) → a ≡ b → same a b ≡ true
same_eq a b e = rw e (same_refl b)

pub same_ne : (a b : List ℕ) → (a ≡ b → ⊥) → same a b ≡ false
same_ne a b f = not_so (same a b) λ e. f (same_true a b e)

-- what the code's `==` says of two slices, and of two parts `&d[a..m] == &t[b..n]`
pub same-pointwise : (a b : List ℕ) → pointwise eqb a b ≡ same a b
unfolding same
same-pointwise [] [] = refl
same-pointwise [] (y ∷ b) = refl
same-pointwise (x ∷ a) [] = refl
same-pointwise (x ∷ a) (y ∷ b) = ap (λ t. eqb x y && t) (same-pointwise a b)

pub same_parts : (d : List ℕ) (a m : ℕ) (t : List ℕ) (b n : ℕ) (r : Bool) → r ≡ pointwise eqb (take (m - a) (drop a d)) (take (n - b) (drop b t)) → r ≡ same (slice a m d) (slice b n t)
same_parts d a m t b n r e = rw (← between_is d a m, ← between_is t b n) (e ∙ same-pointwise _ _)

-- a byte of a part
pub get_d_slice : (d : List ℕ) (a n i : ℕ) → i < n → get_or (slice a (a + n) d) i 0 ≡ get_or d (a + i) 0
get_d_slice d a n i h = get_or-drop a _ i 0 ∙ get_or-take (a + n) d (a + i) 0 (omega arith)

-- a loop that stops at the first of n that fails: each way on
pub pass-start : (P : ℕ → Bool) (n : ℕ) → Passing P n 0
pass-start P n = record { within = omega arith; passed = all_none P }

pub pass_stop : (P : ℕ → Bool) (n i : ℕ) → Passing P n i → i < n → P i ≡ false → false ≡ all n P
pass_stop P n i s h f = sym (all-fails P n i h f)

pub pass-more : (P : ℕ → Bool) (n i : ℕ) → Passing P n i → i < n → P i ≡ true → Passing P n (i + 1)
pass-more P n i s h f = record { within = omega arith; passed = all_more P i s.passed f }

pub pass-done : (P : ℕ → Bool) (n i : ℕ) → Passing P n i → n ≤ i → true ≡ all n P
pass-done P n i s h = let e : i ≡ n = omega arith in sym (rw e at s.passed)

-- the same where the test is a call's answer
pub call_stop : (P : ℕ → Bool) (n i : ℕ) (r : Bool) → Passing P n i → i < n → r ≡ P i → not r ≡ true → false ≡ all n P
call_stop P n i r s h e f = pass_stop P n i s h (sym e ∙ not-true r f)

pub call-more : (P : ℕ → Bool) (n i : ℕ) (r : Bool) → Passing P n i → i < n → r ≡ P i → not r ≡ false → Passing P n (i + 1)
call-more P n i r s h e f = pass-more P n i s h (sym e ∙ not-false r f)

pub ruleset passing = (pass-start, call_stop, call-more, pass-done)
