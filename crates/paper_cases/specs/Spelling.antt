-- Texts and bytes as the papers print them, so that a table here can be held beside theirs.
--   ascii t    the bytes of a text
--   hex t      the bytes that a text writes as pairs of hexadecimal digits, one character between pairs: hex "00 F0" is 0 and 240
use Rattle.std.specs.Prelude.{ℕ, ◌+◌, ◌-◌, ◌*◌, List, [], ◌∷◌, leb}
use Prim.Native.Char.{Char, code}
use Prim.Native.String.{String, [] as ends, ◌∷◌ as ◌then◌}
use Rattle.paper.specs.Checks.{choose}

unfoldable pub ascii : String → List ℕ
ascii ends = []
ascii (c then t) = code c ∷ ascii t

-- 0 to 9 are ASCII 48 to 57, A to F are 65 to 70
unfoldable pub digit : Char → ℕ
digit c = choose (leb (code c) 57) (λ _. code c - 48) (λ _. code c - 55)

unfoldable pub hex : String → List ℕ
hex ends = []
hex (a then ends) = []
hex (a then (b then ends)) = (16 * digit a + digit b) ∷ []
hex (a then (b then (c then t))) = (16 * digit a + digit b) ∷ hex t
