-- The tokens of a text and their bytes. Document 01, "The text": "A token is one of `{}[]:,`, a string read byte by byte to its quote, the longest run of letters, digits and
-- `+-.`, or else one byte (house)." A run that is no word and no number of RFC 8259, and any other byte, break the grammar by themselves, so that they are no `Token`.
--   Token             a token, with what it says
--   spelt             the bytes of a token
--   space, sign       RFC 8259's white space, and the bytes that are tokens by themselves
--   word_byte          what the longest run is made of
use Rattle.std.specs.Prelude.{ℕ, List, [], ◌∷◌, Bool, true, false, ◌&&◌, ◌||◌, leb, eqb}
use Rattle.numbers.specs.Decimal.{digit}
use Rattle.payload.specs.declared.Shape.TheVariants.{Set, Array}
use Rattle.payload.specs.Text.{comma, colon, opens, closes, null_text, true_text, false_text, quoted}

-- a sign is its byte; a string is what stands between its quotes; a number is its text, an integer where it has neither fraction nor exponent
pub data Token : Type 0 where
  a_sign : ℕ → Token
  a_string : List ℕ → Token
  a_null : Token
  a_boolean : Bool → Token
  an_integer : List ℕ → Token
  a_real : List ℕ → Token

abbrev pub spelt : Token → List ℕ
spelt (a_sign b) = b ∷ []
spelt (a_string t) = quoted t
spelt a_null = null_text
spelt (a_boolean true) = true_text
spelt (a_boolean false) = false_text
spelt (an_integer w) = w
spelt (a_real w) = w

-- ASCII
abbrev pub plus : ℕ
plus = 43

abbrev pub minus : ℕ
minus = 45

abbrev pub point : ℕ
point = 46

-- "that standard's white space ("spaces")": space, tab, line feed, carriage return
unfoldable pub space : ℕ → Bool
space c = eqb c 0x20 || eqb c 0x09 || eqb c 0x0A || eqb c 0x0D

-- "one of `{}[]:,`"
unfoldable pub sign : ℕ → Bool
sign c =
    eqb c (opens Set)
    || eqb c (closes Set)
    || eqb c (opens Array)
    || eqb c (closes Array)
    || eqb c colon
    || eqb c comma

-- A to Z and a to z of ASCII
unfoldable pub letter : ℕ → Bool
letter c = leb 65 c && leb c 90 || leb 97 c && leb c 122

-- "letters, digits and `+-.`"
unfoldable pub word_byte : ℕ → Bool
word_byte c = letter c || digit c || eqb c plus || eqb c minus || eqb c point
