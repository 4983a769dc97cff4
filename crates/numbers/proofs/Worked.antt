-- Worked examples: 128 and both ends of the range, in bytes and in text; bytes that are too many for an integer; and the faults of a number. What 80 and 80 00 say stands in Integers.
-- Assumes nothing.
use Rattle.std.specs.Prelude.{None}
use mathlib.Core.Path.{◌≡◌, refl}
use mathlib.Core.List.{[], ◌∷◌, map}
use mathlib.Core.Bool.{true, false}
use Rattle.paper.specs.Refusals.{past_end, width_wrong}
use Rattle.numbers.specs.declared.Integer.{Integer}
use Rattle.numbers.specs.declared.Integer.TheVariants.{Plus, Minus}
use Rattle.numbers.specs.Bytes.{little}
use Rattle.numbers.specs.Number.{Refused, Value, number_at, number_of, fewest}
use Rattle.numbers.specs.Integer.{sign_repeated, is_integer, brief_of, flip, clear}
use Rattle.numbers.specs.Decimal.{decimal_of, decimal, digits, integer_said, value_from}

-- 128 takes two bytes, and -128 one
brief_128 : brief_of (Plus 128) ≡ 0x80 ∷ 0 ∷ []
unfolding brief_of clear
brief_128 = refl

brief_minus_128 : brief_of (Minus 127) ≡ 0x80 ∷ []
unfolding brief_of clear flip
brief_minus_128 = refl

-- request 6: "The base takes `0C 00` for 12 .. `80 00` for 128 stays"; 7F FF, which is -129, stays, too, and 00 00, 80 FF and eight bytes of FF are taken no longer
stays : map is_integer ((0x80 ∷ 0x00 ∷ []) ∷ (0x7F ∷ 0xFF ∷ []) ∷ (0x00 ∷ []) ∷ (0xFF ∷ []) ∷ []) ≡ true ∷ true ∷ true ∷ true ∷ []
unfolding is_integer sign_repeated
stays = refl

goes : map is_integer ((0x0C ∷ 0x00 ∷ []) ∷ (0x00 ∷ 0x00 ∷ []) ∷ (0x80 ∷ 0xFF ∷ []) ∷ (0xFF ∷ 0xFF ∷ 0xFF ∷ 0xFF ∷ 0xFF ∷ 0xFF ∷ 0xFF ∷ 0xFF ∷ []) ∷ []) ≡ false ∷ false ∷ false ∷ false ∷ []
unfolding is_integer sign_repeated
goes = refl

-- 9223372036854775807 and -9223372036854775808
highest : Integer
highest = Plus 9223372036854775807

lowest-one : Integer
lowest-one = Minus 9223372036854775807

highest_bytes : brief_of highest ≡ 255 ∷ 255 ∷ 255 ∷ 255 ∷ 255 ∷ 255 ∷ 255 ∷ 127 ∷ []
unfolding highest brief_of clear
highest_bytes = refl

lowest-bytes : brief_of lowest-one ≡ 0 ∷ 0 ∷ 0 ∷ 0 ∷ 0 ∷ 0 ∷ 0 ∷ 128 ∷ []
unfolding lowest-one brief_of clear flip
lowest-bytes = refl

highest_text : decimal_of highest ≡ 57 ∷ 50 ∷ 50 ∷ 51 ∷ 51 ∷ 55 ∷ 50 ∷ 48 ∷ 51 ∷ 54 ∷ 56 ∷ 53 ∷ 52 ∷ 55 ∷ 55 ∷ 53 ∷ 56 ∷ 48 ∷ 55 ∷ []
unfolding highest decimal_of decimal digits
highest_text = refl

lowest-text : decimal_of lowest-one ≡ 45 ∷ 57 ∷ 50 ∷ 50 ∷ 51 ∷ 51 ∷ 55 ∷ 50 ∷ 48 ∷ 51 ∷ 54 ∷ 56 ∷ 53 ∷ 52 ∷ 55 ∷ 55 ∷ 53 ∷ 56 ∷ 48 ∷ 56 ∷ []
unfolding lowest-one decimal_of decimal digits
lowest-text = refl

-- one more than the highest, and -0
past_highest : integer_said (57 ∷ 50 ∷ 50 ∷ 51 ∷ 51 ∷ 55 ∷ 50 ∷ 48 ∷ 51 ∷ 54 ∷ 56 ∷ 53 ∷ 52 ∷ 55 ∷ 55 ∷ 53 ∷ 56 ∷ 48 ∷ 56 ∷ []) ≡ None
unfolding integer_said value_from
past_highest = refl

past-lowest : integer_said (45 ∷ 57 ∷ 50 ∷ 50 ∷ 51 ∷ 51 ∷ 55 ∷ 50 ∷ 48 ∷ 51 ∷ 54 ∷ 56 ∷ 53 ∷ 52 ∷ 55 ∷ 55 ∷ 53 ∷ 56 ∷ 48 ∷ 57 ∷ []) ≡ None
unfolding integer_said value_from
past-lowest = refl

minus-zero : integer_said (45 ∷ 48 ∷ []) ≡ None
unfolding integer_said value_from
minus-zero = refl

-- leading zeros are taken, N is judged before its bytes, and the shortest has none
padded : number_at (2 ∷ 7 ∷ 0 ∷ []) 0 3 ≡ Value 7 2
unfolding number_at little
padded = refl

none-wide : number_at (0 ∷ []) 0 1 ≡ Refused width_wrong
unfolding number_at
none-wide = refl

too_wide : number_at (5 ∷ []) 0 1 ≡ Refused width_wrong
unfolding number_at
too_wide = refl

cut : number_at (2 ∷ 7 ∷ []) 0 2 ≡ Refused past_end
unfolding number_at
cut = refl

number_300 : number_of 300 ≡ 2 ∷ 44 ∷ 1 ∷ []
unfolding number_of fewest
number_300 = refl
