-- The bytes that the writer writes for a tree. Document 01, "The text": "It writes every number and integer the shortest way, header flags and low format bits 0, true as FF."
--   value_bytes x    the value of a scalar
--   shortest t      the tuples t
--   payload_of t     the payload whose root has the members t
use Rattle.std.specs.Prelude.{ℕ, ◌*◌, List, [], ◌∷◌, ◌++◌, length}
use Rattle.numbers.specs.Number.{number_of}
use Rattle.numbers.specs.Integer.{brief_of}
use Rattle.payload.specs.Tree.{Scalar, null, integer, option, string, boolean, Tuples, none, scalar, inner, format_of, shape_format, boolean_byte, size}
use Rattle.payload.specs.declared.Shape.TheVariants.{Set}
use Rattle.payload.specs.Header.{header_with}

abbrev pub form_byte : ℕ → ℕ
form_byte f = 16 * f

-- "A tuple: S, F, L, V."
unfoldable pub tuple_of : ℕ → ℕ → List ℕ → List ℕ
tuple_of n f v = number_of (2 * n) ++ (form_byte f ∷ (number_of (length v) ++ v))

abbrev pub value_bytes : Scalar → List ℕ
value_bytes null = []
value_bytes (integer i) = brief_of i
value_bytes (option n) = number_of n
value_bytes (string t) = t ++ (0 ∷ [])
value_bytes (boolean b) = boolean_byte b ∷ []

unfoldable pub shortest : Tuples → List ℕ
shortest none = []
shortest (scalar n x rest) = tuple_of n (format_of x) (value_bytes x) ++ shortest rest
shortest (inner n g kids rest) = tuple_of n (shape_format g) (number_of (size kids) ++ shortest kids) ++ shortest rest

unfoldable pub payload_of : Tuples → List ℕ
payload_of t = header_with 0 0 ++ tuple_of 0 (shape_format Set) (number_of (size t) ++ shortest t)
