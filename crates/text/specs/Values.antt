-- The answers for one token where a value is due. Document 01, "The text": "for a value: fraction or exponent 8, row of a format not in the base and value not null 8, fit 9, depth
-- 11, value 10". This order asks for the format that the token is written with, as the reader's asks for F, and at its end for the scalar.
--   is_sign, begins    a token is this sign; its turn may be where a value is due
--   in_base            a row's format is in the base
--   form_for           the format that a token is written with at a row
--   misfit_for         the refusal of a format at a row, or `accepted`
--   scalar_for         the scalar that a token says at a row, or refusal 10
use Rattle.std.specs.Prelude.{ℕ, List, Bool, true, false, not, ◌&&◌, ◌||◌, eqb, Option, Some, None}
use Rattle.paper.specs.Refusals.{accepted, not_in_base, misfit, value_wrong}
use Rattle.paper.specs.Checks.{choose}
use Rattle.numbers.specs.declared.Integer.{Integer}
use Rattle.numbers.specs.Decimal.{integer_said}
use Rattle.dictionary.specs.Formats.{set_form, array_form, null_form, integer_form, enum_form, string_form, real_form, boolean_form}
use Rattle.dictionary.specs.Rows.{kind, number_in}
use Rattle.dictionary.specs.Children.{child_named}
use Rattle.payload.specs.Tree.{null, integer, option, string, boolean}
use Rattle.payload.specs.declared.Shape.TheVariants.{Set, Array}
use Rattle.payload.specs.Fits.{fits}
use Rattle.payload.specs.Text.{opens}
use Rattle.payload.specs.Values.{Valued, wrong, worth}
use Rattle.payload.specs.Reading.{supported}
use Rattle.text.specs.Tokens.{Token, a_sign, a_string, a_null, a_boolean, an_integer, a_real}
use Rattle.text.specs.Shortest.{form_byte}

abbrev pub is_sign : ℕ → Token → Bool
is_sign c (a_sign b) = eqb b c
is_sign c (a_string t) = false
is_sign c a_null = false
is_sign c (a_boolean b) = false
is_sign c (an_integer w) = false
is_sign c (a_real w) = false

-- of the signs, only those that open an object or an array
abbrev pub begins : Token → Bool
begins (a_sign b) = eqb b (opens Set) || eqb b (opens Array)
begins (a_string t) = true
begins a_null = true
begins (a_boolean b) = true
begins (an_integer w) = true
begins (a_real w) = true

-- a tuple of the row's format would be supported
unfoldable pub in_base : List ℕ → ℕ → Bool
in_base d row = supported (form_byte (kind d row))

unfoldable pub is_enum : List ℕ → ℕ → Bool
is_enum d row = eqb (kind d row) enum_form

-- "enum options as strings": a string is an option where the row is an enum. Fraction or exponent make a real
unfoldable pub form_for : List ℕ → ℕ → Token → ℕ
form_for d row (a_sign b) = choose (eqb b (opens Set)) (λ _. set_form) (λ _. array_form)
form_for d row (a_string t) = choose (is_enum d row) (λ _. enum_form) (λ _. string_form)
form_for d row a_null = null_form
form_for d row (a_boolean b) = boolean_form
form_for d row (an_integer w) = integer_form
form_for d row (a_real w) = real_form

-- "fraction or exponent 8, row of a format not in the base and value not null 8, fit 9"
abbrev pub unfit_for : List ℕ → ℕ → ℕ → ℕ
unfit_for d row f = choose (fits d row f) (λ _. accepted) (λ _. misfit)

unfoldable pub misfit_for : List ℕ → ℕ → ℕ → ℕ
misfit_for d row f =
    choose (eqb f real_form) (λ _. not_in_base) λ _.
    choose (not (in_base d row) && not (eqb f null_form)) (λ _. not_in_base) λ _.
    unfit_for d row f

-- "Integers hold what 8 bytes hold; `-0` is 10."
abbrev pub integer_for : Option Integer → Valued
integer_for None = wrong value_wrong
integer_for (Some i) = worth (integer i)

-- "value wrong: .. enum option"
abbrev pub option_for : List ℕ → Option ℕ → Valued
option_for d None = wrong value_wrong
option_for d (Some c) = worth (option (number_in d c))

-- signs and reals don't come this far
unfoldable pub scalar_for : List ℕ → ℕ → Token → Valued
scalar_for d row (a_sign b) = wrong value_wrong
scalar_for d row (a_string t) = choose (is_enum d row) (λ _. option_for d (child_named d row t)) (λ _. worth (string t))
scalar_for d row a_null = worth null
scalar_for d row (a_boolean b) = worth (boolean b)
scalar_for d row (an_integer w) = integer_for (integer_said w)
scalar_for d row (a_real w) = wrong value_wrong
