-- Integers as text. Document 01, "The text": "integers in shortest decimal"; of the writer's text: "Integers hold what 8 bytes hold; `-0` is 10."
--   decimal_of i    the text of i
--   integral t     t is an integer of RFC 8259's grammar with no fraction or exponent: -? (0 | [1-9] [0-9]*)
--   integer_said t  the integer that such a text says, or `None`: -0, or more than 8 bytes hold
use Rattle.std.specs.Prelude.{ℕ, zero, suc, ◌+◌, ◌-◌, ◌*◌, ◌/◌, ◌%◌, ◌^◌, List, [], ◌∷◌, ◌++◌, Bool, true, false, ◌&&◌, ◌||◌, length, ltb, leb, eqb, Option, Some, None}
use Rattle.paper.specs.Checks.{choose}
use Rattle.numbers.specs.declared.Integer.{Integer}
use Rattle.numbers.specs.declared.Integer.TheVariants.{Plus, Minus}

-- the digits of n, of which there are at most k
unfoldable pub digits : ℕ → ℕ → List ℕ
digits zero n = []
digits (suc k) n = choose (ltb n 10) (λ _. []) (λ _. digits k (n / 10)) ++ ((48 + n % 10) ∷ [])

-- 2 to the 64 has 20 digits
unfoldable pub decimal : ℕ → List ℕ
decimal n = digits 20 n

unfoldable pub decimal_of : Integer → List ℕ
decimal_of (Plus n) = decimal n
decimal_of (Minus n) = 45 ∷ decimal (n + 1)

abbrev pub digit : ℕ → Bool
digit c = leb 48 c && leb c 57

unfoldable pub digits_only : List ℕ → Bool
digits_only [] = true
digits_only (c ∷ t) = digit c && digits_only t

-- 0, or digits of which the first is not 0
unfoldable pub plain : List ℕ → Bool
plain [] = false
plain (c ∷ t) = digit c && digits_only t && (eqb (length t) 0 || ltb 48 c)

unfoldable pub integral : List ℕ → Bool
integral [] = false
integral (c ∷ t) = choose (eqb c 45) (λ _. plain t) (λ _. plain (c ∷ t))

-- the number that digits say, after those that said n
unfoldable pub value_from : ℕ → List ℕ → ℕ
value_from n [] = n
value_from n (c ∷ t) = value_from (10 * n + (c - 48)) t

abbrev pub below : ℕ → (Unit {0} → Integer) → Option Integer
below n i = choose (ltb n (2 ^ 63)) (λ _. Some (i tt)) (λ _. None)

unfoldable pub integer_said : List ℕ → Option Integer
integer_said [] = None
integer_said (c ∷ t) =
    choose (eqb c 45)
    (λ _. choose (eqb (value_from 0 t) 0) (λ _. None) (λ _. below (value_from 0 t - 1) (λ _. Minus (value_from 0 t - 1))))
    (λ _. below (value_from 0 (c ∷ t)) (λ _. Plus (value_from 0 (c ∷ t))))
