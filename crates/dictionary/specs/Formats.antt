-- Document 01, "The dictionary": "Format: high nibble 0 set, 1 array, 2 null, 3 integer, 4 enum, 5 string, 6 real, 7 boolean."
--   form_number f    the number of a format
--   form_named n     the format with the number n
use Rattle.std.specs.Prelude.{ℕ, eqb, Option, Some, None}
use Rattle.paper.specs.Checks.{choose}
use Rattle.dictionary.specs.declared.formats.Format.{Format}
use Rattle.dictionary.specs.declared.formats.Format.TheVariants.{Set, Array, Null, Integer, Enum, String, Real, Boolean}

abbrev pub set_form : ℕ
set_form = 0

abbrev pub array_form : ℕ
array_form = 1

abbrev pub null_form : ℕ
null_form = 2

abbrev pub integer_form : ℕ
integer_form = 3

abbrev pub enum_form : ℕ
enum_form = 4

abbrev pub string_form : ℕ
string_form = 5

abbrev pub real_form : ℕ
real_form = 6

abbrev pub boolean_form : ℕ
boolean_form = 7

abbrev pub form_number : Format → ℕ
form_number Set = set_form
form_number Array = array_form
form_number Null = null_form
form_number Integer = integer_form
form_number Enum = enum_form
form_number String = string_form
form_number Real = real_form
form_number Boolean = boolean_form

abbrev pub form_named : ℕ → Option Format
form_named n =
    choose (eqb n set_form) (λ _. Some Set) λ _.
    choose (eqb n array_form) (λ _. Some Array) λ _.
    choose (eqb n null_form) (λ _. Some Null) λ _.
    choose (eqb n integer_form) (λ _. Some Integer) λ _.
    choose (eqb n enum_form) (λ _. Some Enum) λ _.
    choose (eqb n string_form) (λ _. Some String) λ _.
    choose (eqb n real_form) (λ _. Some Real) λ _.
    choose (eqb n boolean_form) (λ _. Some Boolean) λ _.
    None
