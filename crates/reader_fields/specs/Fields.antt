-- Inside the code's contracts alone: nobody needs to believe this page.
-- A tuple's fields S, F and L as the code takes them, one answer each: the checks of `asked` (crate payload, specs/Reading) in three parts.
--   sequence_at, format_at, extent_at       what stands there, or the refusal's number
--   sequence_found, extent_found         the code's form of it
--   sequenced, formed, extended          goes on with it; its faults are given at the tuple's start
--   SequenceMet, FormatMet, ExtentMet    the contracts
use Rattle.std.specs.Prelude.{ℕ, ◌+◌, ◌-◌, ◌/◌, ◌%◌, ◌≤◌, ◌<◌, ◌≡◌, List, ltb, leb, eqb, Result, Ok, Err}
use Rattle.paper.specs.Refusals.{past_end, not_in_base, budget_spent}
use Rattle.paper.specs.declared.Refusal.{Refusal}
use Rattle.paper.specs.Refusal.{number_of}
use Rattle.paper.specs.Checks.{choose, Judged, refused}
use Rattle.numbers.specs.Bytes.{byte}
use Rattle.numbers.specs.Number.{Found, Refused, Value, number_at}
use Rattle.payload.specs.Checked.{Checked}
use Rattle.payload.specs.Checked as checked
use Rattle.payload.specs.Reading.{supported}
use Rattle.reader_fields.specs.declared.Sequence.{Sequence}
use Rattle.reader_fields.specs.declared.Extent.{Extent}

-- "budget; S; selector"
abbrev pub sequence_in : ℕ → Found → Found
sequence_in at (Refused k) = Refused k
sequence_in at (Value n w) = choose (eqb (n % 2) 0) (λ _. Value (n / 2) (at + 1 + w)) (λ _. Refused not_in_base)

unfoldable pub sequence_at : List ℕ → ℕ → ℕ → ℕ → Found
sequence_at s at e l = choose (eqb l 0) (λ _. Refused budget_spent) (λ _. sequence_in at (number_at s at e))

-- "deferred bit and format supported"
unfoldable pub format_at : List ℕ → ℕ → ℕ → Checked
format_at s p e =
    choose (leb e p) (λ _. checked.Refused past_end) λ _.
    choose (supported (byte s p)) (λ _. checked.Good (byte s p / 16)) (λ _. checked.Refused not_in_base)

-- "L; room in the enclosing value"
abbrev pub extent_in : ℕ → ℕ → Found → Found
extent_in p e (Refused k) = Refused k
extent_in p e (Value len w) = choose (ltb (e - (p + 1 + w)) len) (λ _. Refused past_end) (λ _. Value (p + 1 + w) (p + 1 + w + len))

unfoldable pub extent_at : List ℕ → ℕ → ℕ → Found
extent_at s p e = extent_in p e (number_at s p e)

abbrev pub sequence_found : Result Sequence Refusal → Found
sequence_found (Err k) = Refused (number_of k)
sequence_found (Ok x) = Value x.number x.next

abbrev pub extent_found : Result Extent Refusal → Found
extent_found (Err k) = Refused (number_of k)
extent_found (Ok x) = Value x.from x.to

abbrev pub sequenced : {A : Type 0} → Found → ℕ → (ℕ → ℕ → Judged A) → Judged A
sequenced (Refused k) at go = refused k at
sequenced (Value n p) at go = go n p

abbrev pub formed : {A : Type 0} → Checked → ℕ → (ℕ → Judged A) → Judged A
formed (checked.Refused k) at go = refused k at
formed (checked.Good f) at go = go f

abbrev pub extended : {A : Type 0} → Found → ℕ → (ℕ → ℕ → Judged A) → Judged A
extended (Refused k) at go = refused k at
extended (Value from to) at go = go from to

-- the bounds that callers go by
pub record NumberPlaced (at e l p : ℕ) : Type 0 where
  pub some : 1 ≤ l
  pub further : at + 2 ≤ p
  pub within : p ≤ e

abbrev pub SequencePlaced : ℕ → ℕ → ℕ → Found → Type 0
SequencePlaced at e l (Refused k) = Unit {0}
SequencePlaced at e l (Value n p) = NumberPlaced at e l p

pub record SequenceMet (s : List ℕ) (at e l : ℕ) (r : Found) : Type 0 where
  pub same : r ≡ sequence_at s at e l
  pub placed : SequencePlaced at e l r

abbrev pub FormatPlaced : ℕ → ℕ → Checked → Type 0
FormatPlaced p e (checked.Refused k) = Unit {0}
FormatPlaced p e (checked.Good f) = p < e

pub record FormatMet (s : List ℕ) (p e : ℕ) (r : Checked) : Type 0 where
  pub same : r ≡ format_at s p e
  pub placed : FormatPlaced p e r

pub record PartPlaced (p e from to : ℕ) : Type 0 where
  pub further : p + 2 ≤ from
  pub order : from ≤ to
  pub within : to ≤ e

abbrev pub ExtentPlaced : ℕ → ℕ → Found → Type 0
ExtentPlaced p e (Refused k) = Unit {0}
ExtentPlaced p e (Value from to) = PartPlaced p e from to

pub record ExtentMet (s : List ℕ) (p e : ℕ) (r : Found) : Type 0 where
  pub same : r ≡ extent_at s p e
  pub placed : ExtentPlaced p e r
