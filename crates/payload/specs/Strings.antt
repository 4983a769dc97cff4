-- The alphabet of strings. Document 01, "The payload": "String: bytes as in names, perhaps none". A definition of its own, since names and strings need not stay alike.
use Rattle.std.specs.Prelude.{ℕ, List, [], ◌∷◌, Bool, true, ◌&&◌}
use Rattle.dictionary.specs.Accepts.{name_byte}

unfoldable pub string_byte : ℕ → Bool
string_byte b = name_byte b

unfoldable pub well_spelt : List ℕ → Bool
well_spelt [] = true
well_spelt (b ∷ t) = string_byte b && well_spelt t
