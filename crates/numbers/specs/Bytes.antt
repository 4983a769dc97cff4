-- Bytes and the numbers that they write.
--   Bytes v       every element of v is below 256
--   little v      the number that v writes, the least byte first ("Multi-byte numbers are little-endian")
--   lowest k n    the k lowest bytes of n
--   byte, short, long   the number of one, two and four bytes at a place of s
--   top, second   of v, the highest byte, which stands last, and the one below it
use Rattle.std.specs.Prelude.{ℕ, zero, suc, ◌+◌, ◌-◌, ◌*◌, ◌/◌, ◌%◌, ◌<◌, List, [], ◌∷◌, length, get_or}

abbrev pub Bytes : List ℕ → Type 0
Bytes [] = Unit {0}
Bytes (x ∷ v) = (x < 256) × Bytes v

unfoldable pub little : List ℕ → ℕ
little [] = 0
little (x ∷ v) = x + 256 * little v

-- of n, the k lowest bytes, the least first: `little` undoes it
unfoldable pub lowest : ℕ → ℕ → List ℕ
lowest zero n = []
lowest (suc k) n = n % 256 ∷ lowest k (n / 256)

abbrev pub byte : List ℕ → ℕ → ℕ
byte s p = get_or s p 0

unfoldable pub short : List ℕ → ℕ → ℕ
short s p = byte s p + 256 * byte s (p + 1)

unfoldable pub long : List ℕ → ℕ → ℕ
long s p = short s p + 65536 * short s (p + 2)

abbrev pub top : List ℕ → ℕ
top v = byte v (length v - 1)

abbrev pub second : List ℕ → ℕ
second v = byte v (length v - 2)
