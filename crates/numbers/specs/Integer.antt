-- Document 01, "The payload": "Integer: two's complement", of 1 to 8 bytes, and request 6: none longer than needed. An integer is `Plus n`, which is n, or `Minus n`, which is -1 - n: so
-- zero has one form, and complementing every bit of the bytes turns the one into the other.
--   integer_of v          the integer that the bytes v say
--   Complement v i       in the words of arithmetic: i is what the bytes v write, or that less 256 to their count (law: `twos_complement`)
--   SignRepeated v       the top byte of v only repeats the sign: the bytes below it say the same (law: `needless`); sign_repeated: whether it does
--   TwosComplement i v   the bytes v are those of i; is_integer v: they are those of some integer (law: `is-integer`)
--   brief_of i            the bytes of i, which are the only ones (law: `only_brief`)
--   Held i               8 bytes hold i ("Integers hold what 8 bytes hold")
use Rattle.std.specs.Prelude.{ℕ, zero, suc, ◌+◌, ◌-◌, ◌*◌, ◌/◌, ◌%◌, ◌^◌, ◌≤◌, ◌<◌, ◌≡◌, List, [], ◌∷◌, Bool, not, ◌&&◌, ◌||◌, length, ltb, leb, eqb}
use Rattle.paper.specs.Limits.{integer_least, integer_most}
use Rattle.paper.specs.Checks.{choose}
use Rattle.numbers.specs.declared.Integer.{Integer}
use Rattle.numbers.specs.declared.Integer.TheVariants.{Plus, Minus}
use Rattle.numbers.specs.Bytes.{Bytes, little, top, second}

unfoldable pub flip : List ℕ → List ℕ
flip [] = []
flip (x ∷ v) = (255 - x) ∷ flip v

-- the top bit is the sign: 80 is -128, 80 00 is 128
unfoldable pub integer_of : List ℕ → Integer
integer_of v = choose (ltb (top v) 0x80) (λ _. Plus (little v)) (λ _. Minus (little (flip v)))

-- "two's complement": with u the number that k bytes write, the integer is u where u is below half of 256 to the k, and else u less 256 to the k, which is -1 - n
abbrev pub Complement : List ℕ → Integer → Type 0
Complement v (Plus n) = (little v ≡ n) × (2 * n < 256 ^ length v)
Complement v (Minus n) = (little v + n + 1 ≡ 256 ^ length v) × (2 * n < 256 ^ length v)

-- Request 6: "any integer of two or more bytes whose top byte only repeats the sign": 00 above a byte below 80, or FF above one of 80 or more
pub data SignRepeated (v : List ℕ) : Type 0 where
  plus_repeated : 2 ≤ length v → top v ≡ 0x00 → second v < 0x80 → SignRepeated v
  minus_repeated : 2 ≤ length v → top v ≡ 0xFF → 0x80 ≤ second v → SignRepeated v

unfoldable pub sign_repeated : List ℕ → Bool
sign_repeated v = leb 2 (length v) && (eqb (top v) 0x00 && ltb (second v) 0x80 || eqb (top v) 0xFF && leb 0x80 (second v))

pub record TwosComplement (i : Integer) (v : List ℕ) : Type 0 where
  pub least : integer_least ≤ length v
  pub most : length v ≤ integer_most
  pub bytes : Bytes v
  pub says : integer_of v ≡ i
  pub needed : SignRepeated v → ⊥

unfoldable pub is_integer : List ℕ → Bool
is_integer v = leb integer_least (length v) && leb (length v) integer_most && not (sign_repeated v)

-- n in the fewest bytes whose top bit is clear, the least first; at most k
unfoldable pub clear : ℕ → ℕ → List ℕ
clear zero n = []
clear (suc k) n = n % 256 ∷ choose (ltb n 128) (λ _. []) (λ _. clear k (n / 256))

unfoldable pub brief_of : Integer → List ℕ
brief_of (Plus n) = clear integer_most n
brief_of (Minus n) = flip (clear integer_most n)

abbrev pub Held : Integer → Type 0
Held (Plus n) = n < 2 ^ 63
Held (Minus n) = n < 2 ^ 63
