-- The numbers of RFC 8259, section 6: -? (0 | [1-9] [0-9]*) (. [0-9]+)? ([eE] [+-]? [0-9]+)?
--   leading P t    how many elements from the front of t pass the test P
--   numeral w      w is such a number; `integral` of the numbers crate says that it has neither fraction nor exponent
use Rattle.std.specs.Prelude.{ℕ, suc, List, [], ◌∷◌, Bool, true, ◌&&◌, ◌||◌, length, take, drop, ltb, eqb}
use Rattle.paper.specs.Checks.{choose}
use Rattle.numbers.specs.Decimal.{digit, digits_only, integral}
use Rattle.text.specs.Tokens.{plus, minus, point}

unfoldable pub leading : (ℕ → Bool) → List ℕ → ℕ
leading P [] = 0
leading P (c ∷ t) = choose (P c) (λ _. suc (leading P t)) (λ _. 0)

-- [0-9]+
abbrev pub some_digits : List ℕ → Bool
some_digits t = ltb 0 (length t) && digits_only t

abbrev pub unsigned : List ℕ → List ℕ
unsigned [] = []
unsigned (c ∷ t) = choose (eqb c plus || eqb c minus) (λ _. t) (λ _. c ∷ t)

-- ([eE] [+-]? [0-9]+)?
unfoldable pub exponent : List ℕ → Bool
exponent [] = true
exponent (c ∷ t) = (eqb c 69 || eqb c 101) && some_digits (unsigned t)

-- (. [0-9]+)? and what may follow it
unfoldable pub fraction : List ℕ → Bool
fraction [] = true
fraction (c ∷ t) =
    choose (eqb c point) (λ _. ltb 0 (leading digit t) && exponent (drop (leading digit t) t)) (λ _. exponent (c ∷ t))

abbrev pub integer_byte : ℕ → Bool
integer_byte c = eqb c minus || digit c

unfoldable pub numeral : List ℕ → Bool
numeral w = integral (take (leading integer_byte w) w) && fraction (drop (leading integer_byte w) w)
