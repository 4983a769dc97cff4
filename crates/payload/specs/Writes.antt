-- Which bytes write a tree (document 01, "The payload"), with no order of checks. What the paper leaves free, leading zeros of numbers, the flag bytes and the format bits
-- 1 to 3, lives in one field each, so many byte lists write one tree.
--   Holds x v     the bytes v are a value of the scalar x
--   Writes t b    the bytes b are the tuples t
--   Payload t b   the bytes b are a payload whose root has the members t
use Rattle.std.specs.Prelude.{ℕ, ◌*◌, ◌/◌, ◌%◌, ◌<◌, ◌≡◌, List, [], ◌∷◌, ◌++◌, true, length}
use Rattle.numbers.specs.Bytes.{Bytes}
use Rattle.numbers.specs.Number.{Number}
use Rattle.numbers.specs.Integer.{TwosComplement}
use Rattle.payload.specs.Tree.{Scalar, null, integer, option, string, boolean, Tuples, none, scalar, inner, format_of, shape_format, boolean_byte, size}
use Rattle.payload.specs.declared.Shape.TheVariants.{Set}
use Rattle.payload.specs.Header.{header_with}
use Rattle.payload.specs.Strings.{well_spelt}

-- bytes that P takes before bytes that Q takes
pub record Cut (P Q : List ℕ → Type 0) (b : List ℕ) : Type 0 where
  pub front : List ℕ
  pub back : List ℕ
  pub whole : b ≡ front ++ back
  pub here : P front
  pub rest : Q back

-- "F is one byte; bits 1 to 3 aren't read"; its high nibble is the format, and bit 0, deferred, is clear
pub record Format (f : ℕ) (b : List ℕ) : Type 0 where
  pub byte : ℕ
  pub whole : b ≡ byte ∷ []
  pub small : byte < 256
  pub nibble : byte / 16 ≡ f
  pub bound : byte % 2 ≡ 0

-- "L is the byte length of V"
pub record Sized (P : List ℕ → Type 0) (b : List ℕ) : Type 0 where
  pub length_bytes : List ℕ
  pub value : List ℕ
  pub whole : b ≡ length_bytes ++ value
  pub long : Number (length value) length_bytes
  pub here : P value

-- "A tuple: S, F, L, V. S is a number: bit 0 picks the dictionary (0 main, 1 annotation), the rest is the sequence number."
abbrev pub Tuple : ℕ → ℕ → (List ℕ → Type 0) → List ℕ → Type 0
Tuple n f P b = Cut (Number (2 * n)) (Cut (Format f) (Sized P)) b

pub record Spelt (t v : List ℕ) : Type 0 where
  pub whole : v ≡ t ++ (0 ∷ [])
  pub bytes : well_spelt t ≡ true

-- "Null: no bytes .. Integer: two's complement. Boolean: 00 or FF (house). Enum: the option's number, filling V. String: bytes as in names, perhaps none, then one 00."
abbrev pub Holds : Scalar → List ℕ → Type 0
Holds null v = v ≡ []
Holds (integer i) v = TwosComplement i v
Holds (option n) v = Number n v
Holds (string t) v = Spelt t v
Holds (boolean b) v = v ≡ boolean_byte b ∷ []

-- "Set and array: a number counting the tuples, then the tuples."
unfoldable pub Writes : Tuples → List ℕ → Type 0
Writes none b = b ≡ []
Writes (scalar n x rest) b = Cut (Tuple n (format_of x) (Holds x)) (Writes rest) b
Writes (inner n g kids rest) b = Cut (Tuple n (shape_format g) (Cut (Number (size kids)) (Writes kids))) (Writes rest) b

-- "two flag bytes not read"; "The root is a set, S is 0, row 0. Nothing follows it."
pub record Payload (t : Tuples) (b : List ℕ) : Type 0 where
  pub flag : ℕ
  pub flag' : ℕ
  pub flags : Bytes (flag ∷ flag' ∷ [])
  pub body : List ℕ
  pub whole : b ≡ header_with flag flag' ++ body
  pub root : Tuple 0 (shape_format Set) (Cut (Number (size t)) (Writes t)) body
