-- Document 01, "The payload": "A non-negative number: one byte N, then N bytes. N is 1 to 4 (house); leading zeros are taken."
--   Number n b       the bytes b write the number n
--   number_value s p  the value of the number that stands at p, if one does; its width is the byte there
--   Found            what stands where a number is due: a refusal's number, or the value and the width N; `found`: the code's form of it
--   number_at s p e   the number that stands at p and has to end by e: its value and its width N, or the refusal
--   NumberPast       the number due at p passes e; WidthOff: its N is out of bounds; NumberFault: the one or the other, with its refusal
--   number_of n       the shortest bytes that write n
use Rattle.std.specs.Prelude.{ℕ, zero, suc, ◌+◌, ◌-◌, ◌/◌, ◌%◌, ◌≤◌, ◌<◌, ◌≡◌, List, [], ◌∷◌, length, ltb, leb, Result, Ok, Err}
use Rattle.std.proofs.Math.Seq.{slice}
use Rattle.paper.specs.Limits.{number_least, number_most}
use Rattle.paper.specs.Refusals.{past_end, width_wrong}
use Rattle.paper.specs.Checks.{choose}
use Rattle.paper.specs.declared.Refusal.{Refusal}
use Rattle.paper.specs.Refusal.{number_of as refusal_number}
use Rattle.numbers.specs.declared.Number as declared
use Rattle.numbers.specs.Bytes.{Bytes, byte, little}

pub record Number (n : ℕ) (b : List ℕ) : Type 0 where
  pub digits : List ℕ
  pub whole : b ≡ length digits ∷ digits
  pub least : number_least ≤ length digits
  pub most : length digits ≤ number_most
  pub bytes : Bytes digits
  pub says : little digits ≡ n

pub data Found : Type 0 where
  Refused : ℕ → Found
  Value : ℕ → ℕ → Found

abbrev pub found : Result declared.Number Refusal → Found
found (Err k) = Refused (refusal_number k)
found (Ok n) = Value n.value n.width

abbrev pub number_value : List ℕ → ℕ → ℕ
number_value s p = little (slice (p + 1) (p + 1 + byte s p) s)

-- "In a number, N is judged before its bytes": no byte for N is 4, N outside its limits 5, bytes missing 4
unfoldable pub number_at : List ℕ → ℕ → ℕ → Found
number_at s p e =
    choose (leb e p) (λ _. Refused past_end) λ _.
    choose (ltb (byte s p) number_least) (λ _. Refused width_wrong) λ _.
    choose (ltb number_most (byte s p)) (λ _. Refused width_wrong) λ _.
    choose (ltb (e - (p + 1)) (byte s p)) (λ _. Refused past_end) λ _.
    Value (number_value s p) (byte s p)

-- "4: a field passes the end": no byte is left for N, or fewer than N after it
pub data NumberPast (s : List ℕ) (p e : ℕ) : Type 0 where
  no_width : e ≤ p → NumberPast s p e
  cut_off : p < e → number_least ≤ byte s p → byte s p ≤ number_most → e < p + 1 + byte s p → NumberPast s p e

-- "5: N is 0 or above 4"
pub data WidthOff (s : List ℕ) (p e : ℕ) : Type 0 where
  width_zero : p < e → byte s p ≡ 0 → WidthOff s p e
  too_wide : p < e → number_most < byte s p → WidthOff s p e

pub data NumberFault (s : List ℕ) (p e k : ℕ) : Type 0 where
  number_past : NumberPast s p e → k ≡ past_end → NumberFault s p e k
  width_off : WidthOff s p e → k ≡ width_wrong → NumberFault s p e k

-- n in the fewest bytes, the least first; at least one, at most k
unfoldable pub fewest : ℕ → ℕ → List ℕ
fewest zero n = []
fewest (suc k) n = n % 256 ∷ choose (ltb n 256) (λ _. []) (λ _. fewest k (n / 256))

unfoldable pub number_of : ℕ → List ℕ
number_of n = length (fewest number_most n) ∷ fewest number_most n
