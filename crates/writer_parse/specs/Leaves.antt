-- Inside the code's contracts alone: nobody needs to believe this page.
-- What a value says that needs no members to be read.
--   said s n v         its tuple, as the member n
--   form_of, bytes_for   the format and the bytes V of that tuple
--   Proper s v         its parts lie in the text, or are in range
use Rattle.std.specs.Prelude.{ℕ, ◌+◌, ◌^◌, ◌<◌, List}
use Rattle.std.proofs.Math.Seq.{slice}
use Rattle.numbers.specs.Number.{number_of}
use Rattle.numbers.specs.Integer.{Held}
use Rattle.dictionary.specs.Formats.{null_form, integer_form, enum_form, string_form, boolean_form}
use Rattle.payload.specs.Tree.{null, integer, option, string, boolean, none, shape_format}
use Rattle.payload.specs.Reading.{Single, plain, group}
use Rattle.text.specs.Shortest.{value_bytes}
use Rattle.writer_tokens.specs.Met.{Spans}
use Rattle.writer_parse.specs.declared.Value.{Value}
use Rattle.writer_parse.specs.declared.Value.TheVariants.{Null, Boolean, Integer, Option, String, Empty}

abbrev pub said : List ℕ → ℕ → Value → Single
said s n Null = plain n null
said s n (Boolean b) = plain n (boolean b)
said s n (Integer i) = plain n (integer i)
said s n (Option m) = plain n (option m)
said s n (String a b) = plain n (string (slice a b s))
said s n (Empty g) = group n g none

abbrev pub form_of : Value → ℕ
form_of Null = null_form
form_of (Boolean b) = boolean_form
form_of (Integer i) = integer_form
form_of (Option m) = enum_form
form_of (String a b) = string_form
form_of (Empty g) = shape_format g

abbrev pub bytes_for : List ℕ → Value → List ℕ
bytes_for s Null = value_bytes null
bytes_for s (Boolean b) = value_bytes (boolean b)
bytes_for s (Integer i) = value_bytes (integer i)
bytes_for s (Option m) = value_bytes (option m)
bytes_for s (String a b) = value_bytes (string (slice a b s))
bytes_for s (Empty g) = number_of 0

abbrev pub Proper : List ℕ → Value → Type 0
Proper s Null = Unit {0}
Proper s (Boolean b) = Unit {0}
Proper s (Integer i) = Held i
Proper s (Option m) = m < 2 ^ 31
Proper s (String a b) = Spans s a (b + 1)
Proper s (Empty g) = Unit {0}
