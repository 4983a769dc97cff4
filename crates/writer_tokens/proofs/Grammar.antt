-- The numbers of RFC 8259 by the first bytes of a word, as the code's patterns read them.
-- Assumes nothing.
use Prim.Native.Nat.{ℕ, ◌-◌, ◌<◌}
use mathlib.Core.Path.{◌≡◌, refl}
use mathlib.Core.List.{List, [], ◌∷◌}
use mathlib.Core.Bool.{true, false, ◌&&◌, ◌||◌}
use native.Mathlib.Omega.{arith}
use lib.ListN.{length, get_or, take, drop, length-drop}
use lib.Seq.{take-length, length-take-le}
use lib.Dec.{ltb, eqb}
use Rattle.paper.specs.Checks.{choose}
use Rattle.numbers.specs.Decimal.{digit, digits_only, plain, integral}
use Rattle.text.specs.Tokens.{plus, minus, point}
use Rattle.text.specs.Numerals.{leading, some_digits, unsigned, exponent, fraction}

-- what a pattern calls the rest, after one byte, two, or a run of n
pub rest_from : (w : List ℕ) (n : ℕ) → take (length w - n) (drop n w) ≡ drop n w
rest_from w n = rw (← length-drop n w) (take-length (drop n w))

pub rest_is : (w : List ℕ) → take (length w - 1) (drop 1 w) ≡ drop 1 w
rest_is w = rest_from w 1

pub rest_after : (w : List ℕ) → take (length w - 2) (drop 2 w) ≡ drop 2 w
rest_after w = rest_from w 2

pub plain-none : (w : List ℕ) → length w < 1 → plain w ≡ false
unfolding plain
plain-none [] h = refl
plain-none (c ∷ t) h = absurd (omega arith)

pub plain-some : (w : List ℕ) → 0 < length w → plain w ≡ digit (get_or w 0 0) && digits_only (drop 1 w) && (eqb (length (drop 1 w)) 0 || ltb 48 (get_or w 0 0))
unfolding plain
plain-some [] h = absurd (omega arith)
plain-some (c ∷ t) h = refl

pub only-none : (w : List ℕ) → length w ≡ 0 → digits_only w ≡ true
unfolding digits_only
only-none [] h = refl
only-none (c ∷ t) h = absurd (omega arith)

pub ruleset plains = (rest_is, plain-none, plain-some, only-none)

pub integral-none : (w : List ℕ) → length w < 1 → integral w ≡ false
unfolding integral
integral-none [] h = refl
integral-none (c ∷ t) h = absurd (omega arith)

pub integral-some : (w : List ℕ) → 0 < length w → integral w ≡ choose (eqb (get_or w 0 0) minus) (λ _. plain (drop 1 w)) (λ _. plain w)
unfolding integral
integral-some [] h = absurd (omega arith)
integral-some (c ∷ t) h = refl

pub ruleset integrals = (rest_is, plain-none, integral-none, integral-some)

pub exponent-none : (w : List ℕ) → length w < 1 → exponent w ≡ true
unfolding exponent
exponent-none [] h = refl
exponent-none (c ∷ t) h = absurd (omega arith)

pub exponent-some : (w : List ℕ) → 0 < length w → exponent w ≡ (eqb (get_or w 0 0) 69 || eqb (get_or w 0 0) 101) && some_digits (unsigned (drop 1 w))
unfolding exponent
exponent-some [] h = absurd (omega arith)
exponent-some (c ∷ t) h = refl

pub unsigned-none : (w : List ℕ) → length w ≡ 1 → unsigned (drop 1 w) ≡ drop 1 w
unsigned-none [] h = refl
unsigned-none (c ∷ []) h = refl
unsigned-none (c ∷ e ∷ t) h = absurd (omega arith)

pub unsigned-some : (w : List ℕ) → 1 < length w → unsigned (drop 1 w) ≡ choose (eqb (get_or w 1 0) plus || eqb (get_or w 1 0) minus) (λ _. drop 2 w) (λ _. drop 1 w)
unsigned-some [] h = absurd (omega arith)
unsigned-some (c ∷ []) h = absurd (omega arith)
unsigned-some (c ∷ e ∷ t) h = refl

pub ruleset exponents = (rest_is, rest_after, exponent-none, exponent-some, unsigned-none, unsigned-some)

pub fraction-none : (w : List ℕ) → length w < 1 → fraction w ≡ exponent w
unfolding fraction exponent
fraction-none [] h = refl
fraction-none (c ∷ t) h = absurd (omega arith)

pub fraction-some : (w : List ℕ) → 0 < length w → fraction w ≡ choose (eqb (get_or w 0 0) point) (λ _. ltb 0 (leading digit (drop 1 w)) && exponent (drop (leading digit (drop 1 w)) (drop 1 w))) (λ _. exponent w)
unfolding fraction
fraction-some [] h = absurd (omega arith)
fraction-some (c ∷ t) h = refl

pub ruleset fractions = (rest_is, length-take-le, fraction-none, fraction-some)
