-- Inside the code's contracts alone: nobody needs to believe this page.
-- What the functions' contracts say, beside an equation to a definition.
--   Wrote d p t r d'    t is written from p on, and r is the place after it
--   Widened             a byte as a wider number
--   turned m v          the bytes, complemented where m holds
--   Summed              the number that bytes say
--   NumberMet           what stands where a number is due, with its bounds
--   Standing, Taken     a number that is known to be well formed, and its value
--   IntegerMet          the integer that bytes say, which 8 bytes hold
--   too_large, capped    the least number that is too large for any integer; a number, or that one
--   next                a number with one digit more
--   digit_count t b n   how many digits n has to the base b, the highest below t
--   plus_said, minus_said what digits say, without a sign and with one
use Rattle.std.specs.Prelude.{ℕ, zero, suc, ltb, ◌+◌, ◌-◌, ◌*◌, ◌/◌, ◌^◌, ◌≤◌, ◌<◌, min, ◌≡◌, List, Bool, true, false, length, eqb, Option, None}
use Rattle.std.proofs.lemmas.List.Edits.{sets}
use Rattle.std.proofs.Math.Seq.{slice}
use Rattle.paper.specs.Limits.{number_least, number_most}
use Rattle.numbers.specs.Bytes.{byte, little}
use Rattle.numbers.specs.Number.{Found, Refused, Value, number_value, number_at}
use Rattle.numbers.specs.Integer.{flip, integer_of, Held}
use Rattle.numbers.specs.Decimal.{below}
use Rattle.numbers.specs.declared.Integer.{Integer}
use Rattle.numbers.specs.declared.Integer.TheVariants.{Plus, Minus}
use Rattle.paper.specs.Checks.{choose}

-- the list d with t stored from p on
unfoldable pub wrote : List ℕ → ℕ → List ℕ → List ℕ
wrote d p t = sets d p t

pub record Wrote (d : List ℕ) (p : ℕ) (t : List ℕ) (r : ℕ) (d' : List ℕ) : Type 0 where
  pub place : r ≡ p + length t
  pub left : d' ≡ wrote d p t

pub record Widened (x r : ℕ) : Type 0 where
  pub same : r ≡ x
  pub small : r < 256

abbrev pub turned : Bool → List ℕ → List ℕ
turned false v = v
turned true v = flip v

abbrev pub turned_byte : Bool → ℕ → ℕ
turned_byte false x = x
turned_byte true x = 255 - x

pub record Summed (s : List ℕ) (p e : ℕ) (m : Bool) (r : ℕ) : Type 0 where
  pub same : r ≡ little (turned m (slice p e s))
  pub small : r < 256 ^ (e - p)

pub record ValueMet (p e n w : ℕ) : Type 0 where
  pub small : n < 2 ^ 32
  pub least : number_least ≤ w
  pub most : w ≤ number_most
  pub within : p + 1 + w ≤ e

abbrev pub Within : ℕ → ℕ → Found → Type 0
Within p e (Refused k) = Unit {0}
Within p e (Value n w) = ValueMet p e n w

pub record NumberMet (s : List ℕ) (p e : ℕ) (r : Found) : Type 0 where
  pub same : r ≡ number_at s p e
  pub met : Within p e r

-- a number stands at p, whole
pub record Standing (s : List ℕ) (p : ℕ) : Type 0 where
  pub least : number_least ≤ byte s p
  pub most : byte s p ≤ number_most
  pub within : p + 1 + byte s p ≤ length s

pub record Taken (s : List ℕ) (p r : ℕ) : Type 0 where
  pub same : r ≡ number_value s p
  pub small : r < 2 ^ 32

pub record IntegerMet (v : List ℕ) (r : Integer) : Type 0 where
  pub same : r ≡ integer_of v
  pub held : Held r

-- the least number that no integer is, with either sign
abbrev pub too_large : ℕ
too_large = 2 ^ 63 + 1

abbrev pub capped : ℕ → ℕ
capped n = min n too_large

-- a number with one digit more
abbrev pub next : ℕ → ℕ → ℕ
next n c = 10 * n + (c - 48)

-- n counted down, at most k times
unfoldable pub digits_by : ℕ → ℕ → ℕ → ℕ → ℕ
digits_by zero t b n = 1
digits_by (suc k) t b n = choose (ltb n t) (λ _. 1) (λ _. suc (digits_by k t b (n / b)))

abbrev pub digit_count : ℕ → ℕ → ℕ → ℕ
digit_count t b n = digits_by n t b n

-- what digits that say n say, without a sign and with one
abbrev pub plus_said : ℕ → Option Integer
plus_said n = below n (λ _. Plus n)

abbrev pub minus_said : ℕ → Option Integer
minus_said n = choose (eqb n 0) (λ _. None) (λ _. below (n - 1) (λ _. Minus (n - 1)))
