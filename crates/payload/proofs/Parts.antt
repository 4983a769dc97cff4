-- A part of a payload, and a number found in one.
-- Assumes nothing.
--   take_within, part-byte, part-first, part-long   the bytes of a part
--   part-number                                     a number that fills a part is found as it is in its place
--   value-met, place-one, place_after, place_end, place-left   the bounds of a number that is found
use Prim.Native.Nat.{ℕ, ◌+◌, ◌-◌, ◌*◌, ◌^◌, ◌≤◌, ◌<◌}
use mathlib.Core.Path.{◌≡◌, refl, sym, ap, ◌∙◌}
use mathlib.Core.List.{List}
use mathlib.Core.Bool.{Bool, true, false}
use native.Mathlib.Omega.{arith}
use lib.ListN.{length, take, drop}
use lib.Seq.{slice, length-slice, take-take, drop-drop, get_or-drop, get_or-take}
use lib.Dec.{ltb, leb}
use borrow.Author.Tests.{lt-leb, le-leb, leb-true, leb-false, ltb-false}
use Rattle.paper.specs.Limits.{number_least, number_most}
use Rattle.paper.specs.Refusals.{past_end, width_wrong}
use Rattle.paper.specs.Checks.{choose}
use Rattle.numbers.specs.Bytes.{byte, little}
use Rattle.numbers.specs.Number.{Found, Refused, Value, number_at}
use Rattle.numbers.specs.Met.{ValueMet, NumberMet}
use Rattle.numbers.proofs.Places.{slice-take}

pub take_within : (s : List ℕ) (p q n : ℕ) → p + n ≤ q → take n (drop p (take q s)) ≡ slice p (p + n) s
take_within s p q n h = sym (slice-take (take q s) p n) ∙ ap (drop p) (take-take (p + n) q s h)

module _ (s : List ℕ) (p q : ℕ) (h : p < q) where
  pub part-byte : (i : ℕ) → p + i < q → byte (slice p q s) i ≡ byte s (p + i)
  part-byte i l = get_or-drop p (take q s) i 0 ∙ get_or-take q s (p + i) 0 l

  pub part-first : byte (slice p q s) 0 ≡ byte s p
  part-first = let e : p + 0 ≡ p = omega arith in part-byte 0 (omega arith) ∙ ap (byte s) e

pub part-number : (s : List ℕ) (p q : ℕ) → p ≤ q → q ≤ length s → number_at (slice p q s) 0 (length (slice p q s)) ≡ number_at s p q
unfolding number_at
part-number s p q o w = ap (λ (n : ℕ). number_at (slice p q s) 0 n) (length-slice p q s w) ∙ by (leb q p) refl
  where
    digits : (b : ℕ) → b ≤ q - (p + 1) → p < q → slice (0 + 1) (0 + 1 + b) (slice p q s) ≡ slice (p + 1) (p + 1 + b) s
    digits b l h = slice-take (slice p q s) 1 b ∙ ap (take b) (drop-drop 1 p (take q s)) ∙ take_within s (p + 1) q b (omega arith)

    either : (t : Bool) (x y : Found) → (t ≡ false → x ≡ y) → choose t (λ _. Refused past_end) (λ _. x) ≡ choose t (λ _. Refused past_end) (λ _. y)
    either true x y f = refl
    either false x y f = f refl

    onward : (b : ℕ) → p < q → choose (ltb b number_least) (λ _. Refused width_wrong) (λ _. choose (ltb number_most b) (λ _. Refused width_wrong) λ _. choose (ltb (q - (p + 1)) b) (λ _. Refused past_end) λ _. Value (little (slice (0 + 1) (0 + 1 + b) (slice p q s))) b) ≡ choose (ltb b number_least) (λ _. Refused width_wrong) (λ _. choose (ltb number_most b) (λ _. Refused width_wrong) λ _. choose (ltb (q - (p + 1)) b) (λ _. Refused past_end) λ _. Value (little (slice (p + 1) (p + 1 + b) s)) b)
    onward b h =
        ap (λ (x : Found). choose (ltb b number_least) (λ _. Refused width_wrong) (λ _. choose (ltb number_most b) (λ _. Refused width_wrong) λ _. x))
        (either (ltb (q - (p + 1)) b) _ _ λ e. ap (λ (l : List ℕ). Value (little l) b) (digits b (ltb-false (q - (p + 1)) b e) h))

    by : (t : Bool) → leb q p ≡ t → number_at (slice p q s) 0 (q - p) ≡ number_at s p q
    by true e = let l = leb-true q p e in rw (le-leb q p l, le-leb (q - p) 0 (omega arith))
    by false e =
        let l = leb-false q p e in
        let j : q - p - 1 ≡ q - (p + 1) = omega arith in
        rw (lt-leb q p l, lt-leb (q - p) 0 (omega arith), part-first s p q l, j) (onward (byte s p) l)

-- a number that is found has its bounds
pub value-met : (s : List ℕ) (p e n w : ℕ) (f : Found) → NumberMet s p e f → f ≡ Value n w → ValueMet p e n w
value-met s p e n w f m g = taken (rw g at m)
  where
    taken : NumberMet s p e (Value n w) → ValueMet p e n w
    taken m = m.met

-- sums of places in a slice fit
module _ (s : List ℕ) (cap : length s * 1 < 2 ^ 63) (p e n w : ℕ) (f : Found) (h : e ≤ length s) (m : NumberMet s p e f) (g : f ≡ Value n w) where
  pub place-one : p + 1 < 2 ^ 64
  place-one = let v = value-met s p e n w f m g in omega (arith, v.within)

  pub place_after : p + 1 + w < 2 ^ 64
  place_after = let v = value-met s p e n w f m g in omega (arith, v.within)

  pub place_end : n ≤ e - (p + 1 + w) → p + 1 + w + n < 2 ^ 64
  place_end l = let v = value-met s p e n w f m g in omega (arith, v.within)

  pub place-left : p + 1 + w ≤ e
  place-left = let v = value-met s p e n w f m g in v.within
