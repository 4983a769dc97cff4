-- Inside the code's contracts alone: nobody needs to believe this page.
-- Hex and decimal, as the fields of a case file have them.
--   hex_digit c        the value of a hex digit in either case; 16 for any other byte
--   hex_pair a b       the byte that two hex digits say; 256 where one is none
--   is_hex s           s is pairs of hex digits
--   hex_bytes s        the bytes that they say
--   is_decimal s       s is decimal digits
--   decimal_from n s   the number that they say, after those that said n
--   decimal_most       the most that a number of a line may say: 32 bits
use Rattle.std.specs.Prelude.{ℕ, ◌+◌, ◌-◌, ◌*◌, Bool, true, false, ◌&&◌, cond, List, [], ◌∷◌, ltb, leb}

abbrev pub between : ℕ → ℕ → ℕ → Bool
between a c b = leb a c && leb c b

-- 0 to 9, a to f, A to F
unfoldable pub hex_digit : ℕ → ℕ
hex_digit c = cond (between 48 c 57) (c - 48) (cond (between 97 c 102) (c - 87) (cond (between 65 c 70) (c - 55) 16))

unfoldable pub hex_pair : ℕ → ℕ → ℕ
hex_pair a b = cond (ltb (hex_digit a) 16 && ltb (hex_digit b) 16) (hex_digit a * 16 + hex_digit b) 256

unfoldable pub is_hex : List ℕ → Bool
is_hex [] = true
is_hex (a ∷ []) = false
is_hex (a ∷ b ∷ s) = ltb (hex_pair a b) 256 && is_hex s

unfoldable pub hex_bytes : List ℕ → List ℕ
hex_bytes [] = []
hex_bytes (a ∷ []) = []
hex_bytes (a ∷ b ∷ s) = hex_pair a b ∷ hex_bytes s

unfoldable pub is_decimal : List ℕ → Bool
is_decimal [] = true
is_decimal (c ∷ s) = ltb (hex_digit c) 10 && is_decimal s

unfoldable pub decimal_from : ℕ → List ℕ → ℕ
decimal_from n [] = n
decimal_from n (c ∷ s) = decimal_from (n * 10 + hex_digit c) s

abbrev pub decimal_most : ℕ
decimal_most = 4294967295
