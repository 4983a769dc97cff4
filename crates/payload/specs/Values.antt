-- The answers for one scalar value: what the bytes V say at a row, or the number of the refusal. Document 01, "The payload", and refusals 4, 5 and 10.
use Rattle.std.specs.Prelude.{ℕ, ◌+◌, ◌-◌, List, Bool, true, false, ◌&&◌, length, take, leb, eqb}
use Rattle.paper.specs.Refusals.{value_wrong}
use Rattle.paper.specs.Checks.{choose}
use Rattle.numbers.specs.Bytes.{byte}
use Rattle.numbers.specs.Number.{Found, Refused, Value, number_at}
use Rattle.numbers.specs.Integer.{integer_of, is_integer}
use Rattle.dictionary.specs.Formats.{null_form, integer_form, enum_form, string_form}
use Rattle.dictionary.specs.Children.{child_numbered}
use Rattle.payload.specs.Tree.{Scalar, null, integer, option, string, boolean, boolean_byte}
use Rattle.payload.specs.Strings.{well_spelt}
use Rattle.payload.specs.Fits.{found}

pub data Valued : Type 0 where
  wrong : ℕ → Valued
  worth : Scalar → Valued

abbrev pub when : Bool → (Unit {0} → Scalar) → Valued
when t x = choose t (λ _. worth (x tt)) (λ _. wrong value_wrong)

unfoldable pub integer_value : List ℕ → Valued
integer_value v = when (is_integer v) (λ _. integer (integer_of v))

unfoldable pub boolean_value : List ℕ → Valued
boolean_value v =
    choose (eqb (length v) 1 && eqb (byte v 0) (boolean_byte false)) (λ _. worth (boolean false)) λ _.
    when (eqb (length v) 1 && eqb (byte v 0) (boolean_byte true)) (λ _. boolean true)

unfoldable pub string_value : List ℕ → Valued
string_value v =
    when (leb 1 (length v) && eqb (byte v (length v - 1)) 0 && well_spelt (take (length v - 1) v)) (λ _. string (take (length v - 1) v))

-- the option's number is a field, so it can fail as one (4, 5); then it has to fill V and to be known
abbrev pub option_in : List ℕ → ℕ → List ℕ → Found → Valued
option_in d row v (Refused k) = wrong k
option_in d row v (Value n w) = when (eqb (1 + w) (length v) && found (child_numbered d row n)) (λ _. option n)

unfoldable pub option_value : List ℕ → ℕ → List ℕ → Valued
option_value d row v = option_in d row v (number_at v 0 (length v))

-- the value v of the format f, which fits the row
unfoldable pub scalar_value : List ℕ → ℕ → ℕ → List ℕ → Valued
scalar_value d row f v =
    choose (eqb f null_form) (λ _. when (eqb (length v) 0) (λ _. null)) λ _.
    choose (eqb f integer_form) (λ _. integer_value v) λ _.
    choose (eqb f enum_form) (λ _. option_value d row v) λ _.
    choose (eqb f string_form) (λ _. string_value v) λ _.
    boolean_value v
