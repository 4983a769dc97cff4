-- A scalar's value, by its format: what the check does not find alone.
-- Assumes nothing.
--   enum_holds, option-row   the rows that `option_word` asks of
--   integer_is               an integer's text
--   word_rules               the value by its format
use Prim.Native.Nat.{ℕ, ◌<◌, ◌≤◌}
use mathlib.Core.Path.{◌≡◌, refl, sym, ap, ◌∙◌}
use mathlib.Core.List.{List}
use mathlib.Core.Bool.{true, false}
use native.Mathlib.Omega.{arith}
use lib.ListN.{length, take}
use lib.Seq.{take-length}
use borrow.Author.Tests.{le-leb}
use Rattle.std.specs.Prelude.{Some}
use Rattle.paper.specs.Limits.{integer_least, integer_most}
use Rattle.numbers.specs.declared.Integer.{Integer}
use Rattle.numbers.specs.Integer.{integer_of, sign_repeated, is_integer}
use Rattle.numbers.specs.Decimal.{decimal_of}
use Rattle.numbers.specs.Met.{IntegerMet}
use Rattle.dictionary.specs.declared.formats.Format.{Format}
use Rattle.dictionary.specs.declared.formats.Format.TheVariants as is
use Rattle.dictionary.specs.Formats.{enum_form, form_number}
use Rattle.dictionary.specs.Rows.{entries, kind}
use Rattle.dictionary.specs.Children.{child_numbered}
use Rattle.dictionary.specs.Given.{Row, parent}
use Rattle.dictionary.proofs.Laws.{enum_parent, accepted_family, number-child}
use Rattle.payload.specs.Checked.{Checked, Good}
use Rattle.payload.specs.Fits.{fits}
use Rattle.payload.specs.Values.{integer_value, boolean_value, scalar_value}
use Rattle.payload.proofs.Sitting.{fits-own}
use Rattle.payload.proofs.Longest.{decimal-long}
use Rattle.reader_values.specs.Words.{WordMet, AnyWordMet}

-- an option of an enum
module _ (d : List ℕ) (row : ℕ) (w : Row d row) (k : kind d row ≡ enum_form) where
  pub enum_holds : (row < entries d) × (parent d row ≡ true)
  enum_holds = (w.inside, enum_parent d row k)

  pub option-row : (n c : ℕ) → child_numbered d row n ≡ Some c → Row d c
  option-row n c e = record { accepted = w.accepted; inside = (number-child d row n (accepted_family d w.accepted row w.inside enum_holds.1) c e).0 }

-- an integer
pub integer_is : (v : List ℕ) (i : Integer) (k : ℕ) → integer_least ≤ length v → length v ≤ integer_most → sign_repeated v ≡ false → IntegerMet (take (length v) v) i → k ≡ length (decimal_of i) → AnyWordMet (length v) (integer_value v) (Good k)
unfolding integer_value is_integer
integer_is v i k l h n m e =
    let g : i ≡ integer_of v = m.same ∙ ap integer_of (take-length v) in
    record {
      at_row =
          λ d row.
          record {
            same = rw (le-leb integer_least (length v) l, le-leb (length v) integer_most h, n) (ap Good (e ∙ ap (λ (j : Integer). length (decimal_of j)) g));
            short = omega (arith, decimal-long i, e);
          };
    }

pub enum_fits : (d : List ℕ) (row : ℕ) (F : Format) → fits d row (form_number F) ≡ true → F ≡ is.Enum → kind d row ≡ enum_form
enum_fits d row F h e = let g : form_number F ≡ enum_form = ap form_number e in sym ((fits-own d row enum_form (λ z. omega arith)).0 (rw g at h))

-- no other format is left
module _ (d : List ℕ) (row : ℕ) (v : List ℕ) (r : Checked) where
  pub by_boolean : (F : Format) → (F ≡ is.Null → ⊥) → (F ≡ is.Integer → ⊥) → (F ≡ is.Enum → ⊥) → (F ≡ is.String → ⊥) → AnyWordMet (length v) (boolean_value v) r → WordMet d row (length v) (scalar_value d row (form_number F) v) r
  unfolding scalar_value
  by_boolean is.Set a b c k m = m.at_row d row
  by_boolean is.Array a b c k m = m.at_row d row
  by_boolean is.Null a b c k m = absurd (a refl)
  by_boolean is.Integer a b c k m = absurd (b refl)
  by_boolean is.Enum a b c k m = absurd (c refl)
  by_boolean is.String a b c k m = absurd (k refl)
  by_boolean is.Real a b c k m = m.at_row d row
  by_boolean is.Boolean a b c k m = m.at_row d row

pub ruleset word_rules = (enum_fits, by_boolean)
