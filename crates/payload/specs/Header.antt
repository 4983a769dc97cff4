-- Document 01, "The payload": "Header: version bytes 00 F0 F0 F1, two flag bytes not read, schema class 0."
--   header_with f g    the seven bytes, with the flag bytes f and g
--   header_agrees s      the payload s begins so, whatever its flags
use Rattle.std.specs.Prelude.{ℕ, List, [], ◌∷◌, ◌++◌, Bool, ◌&&◌, take, eqb}
use Rattle.paper.specs.Tests.{same}
use Rattle.numbers.specs.Bytes.{byte}

abbrev pub version_bytes : List ℕ
version_bytes = 0x00 ∷ 0xF0 ∷ 0xF0 ∷ 0xF1 ∷ []

abbrev pub schema_class : ℕ
schema_class = 0x00

abbrev pub header_with : ℕ → ℕ → List ℕ
header_with f g = version_bytes ++ (f ∷ g ∷ schema_class ∷ [])

unfoldable pub header_agrees : List ℕ → Bool
header_agrees s = same (take 4 s) version_bytes && eqb (byte s 6) schema_class
