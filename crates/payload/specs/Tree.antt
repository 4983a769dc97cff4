-- What a payload says, as a tree. A run of tuples is one type, since a set or an array holds a run of its own.
--   Scalar, Shape, Tuples    the tree; the root of a payload is the run of its members
--   format_of, shape_format    the format that each is written with
--   boolean_byte              the byte of a boolean
--   size, count, depth       how many tuples a run has: itself, with all that they hold, and how deep they nest
use Rattle.std.specs.Prelude.{ℕ, suc, ◌+◌, max, List, Bool, true, false}
use Rattle.numbers.specs.declared.Integer.{Integer}
use Rattle.dictionary.specs.Formats.{set_form, array_form, null_form, integer_form, enum_form, string_form, boolean_form}
use Rattle.payload.specs.declared.Shape.{Shape}
use Rattle.payload.specs.declared.Shape.TheVariants.{Set, Array}

-- a value that holds no tuples. An enum's is the number of its option; a string's has no closing 00
pub data Scalar : Type 0 where
  null : Scalar
  integer : Integer → Scalar
  option : ℕ → Scalar
  string : List ℕ → Scalar
  boolean : Bool → Scalar

-- none; or a tuple, with its sequence number or index and its value, before a run
pub data Tuples : Type 0 where
  none : Tuples
  scalar : ℕ → Scalar → Tuples → Tuples
  inner : ℕ → Shape → Tuples → Tuples → Tuples

abbrev pub format_of : Scalar → ℕ
format_of null = null_form
format_of (integer i) = integer_form
format_of (option n) = enum_form
format_of (string t) = string_form
format_of (boolean b) = boolean_form

abbrev pub shape_format : Shape → ℕ
shape_format Set = set_form
shape_format Array = array_form

-- "Boolean: 00 or FF (house)."
abbrev pub boolean_byte : Bool → ℕ
boolean_byte false = 0x00
boolean_byte true = 0xFF

unfoldable pub size : Tuples → ℕ
size none = 0
size (scalar n x rest) = suc (size rest)
size (inner n g kids rest) = suc (size rest)

unfoldable pub count : Tuples → ℕ
count none = 0
count (scalar n x rest) = suc (count rest)
count (inner n g kids rest) = suc (count kids + count rest)

unfoldable pub depth : Tuples → ℕ
depth none = 0
depth (scalar n x rest) = depth rest
depth (inner n g kids rest) = max (suc (depth kids)) (depth rest)
