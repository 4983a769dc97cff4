-- Document 01, "What a refusal says": the table for a payload, a line for each number. 1, 2, 3, 13 and 14 speak of the whole call; 4 to 12 of a tuple that is reached (Reached), whose own check of that number fails, while those before it don't.
--   PastEnd .. BudgetSpent             4 to 12, of a tuple
--   InTable, Passed, Front, Overlong   what 1, 2, 3, 13 and 14 say of the call
--   Line d s budget room k w           the table: when number k is given, and with which place w
use Rattle.std.specs.Prelude.{ℕ, suc, ◌+◌, ◌-◌, ◌*◌, ◌/◌, ◌<◌, ◌≤◌, ◌≡◌, List, [], ◌∷◌, ◌++◌, Bool, true, false, length, take}
use Rattle.std.proofs.Math.Seq.{slice}
use Rattle.paper.specs.Limits.{integer_least, integer_most, payload_least, payload_most, text_most}
use Rattle.paper.specs.Refusals.{dictionary_wrong, length_wrong, header_differs, past_end, width_wrong, not_known, given_twice, not_in_base, misfit, value_wrong, too_deep, budget_spent, after_root, no_room}
use Rattle.numbers.specs.Bytes.{byte}
use Rattle.numbers.specs.Number.{NumberPast, WidthOff}
use Rattle.numbers.specs.Integer.{SignRepeated}
use Rattle.dictionary.specs.Formats.{null_form, integer_form, enum_form, string_form, boolean_form}
use Rattle.dictionary.specs.Children.{child_numbered}
use Rattle.dictionary.specs.Accepts.{accepts}
use Rattle.payload.specs.Tree.{Tuples, boolean_byte}
use Rattle.payload.specs.Header.{header_with}
use Rattle.payload.specs.Writes.{Spelt}
use Rattle.payload.specs.Fits.{found}
use Rattle.payload.specs.Text.{Means}
use Rattle.payload.specs.Reading.{supported, is_group}
use Rattle.payload.specs.Lying.{Read}
use Rattle.payload.specs.Reached.{Many, Spot, Begun, Numbered, Formed, Measured, Counted, Due, Somewhere}

module _ (s : List ℕ) (x : Spot) where
  -- "4: a field passes the end of its enclosing value": a number, F or V
  pub data PastEnd : Type 0 where
    number_passes : (p e : ℕ) → Due s x p e → NumberPast s p e → PastEnd
    form_passes : (n p : ℕ) → Numbered s x n p → x.end ≤ p → PastEnd
    value_passes : (n p long q : ℕ) → Formed s x n p → Read s (p + 1) x.end long q → x.end < q + long → PastEnd

  -- "5: N is 0 or above 4"
  pub data WidthWrong : Type 0 where
    width_wrong_at : (p e : ℕ) → Due s x p e → WidthOff s p e → WidthWrong

  -- "6: sequence or name not known; array index out of turn"
  pub data NotKnown : Type 0 where
    not_known_at : (n p : ℕ) → Begun s x n p → x.knows n ≡ false → NotKnown

  -- "7: child given twice in one set"
  pub data GivenTwice : Type 0 where
    given_twice_at : (n p : ℕ) → Begun s x n p → x.knows n ≡ true → x.news n ≡ false → GivenTwice

  -- "8: annotation selector, deferred bit, format or number kind not in the base"
  pub data NotInBase : Type 0 where
    annotated : (n p : ℕ) → 1 ≤ x.left → Read s x.start x.end (suc (2 * n)) p → NotInBase
    unsupported : (n p : ℕ) → Numbered s x n p → p < x.end → supported (byte s p) ≡ false → NotInBase

  -- "9: format doesn't fit the row; root no set"
  pub data Misfit : Type 0 where
    misfitting : (n p : ℕ) → Numbered s x n p → p < x.end → supported (byte s p) ≡ true → x.suits n (byte s p / 16) ≡ false → Misfit

-- V, from q to z, is wrong as a scalar of the format f: "integer length or range, boolean, string, enum option, null with bytes, bytes left in a value"; and, by request 6, "any integer of two
-- or more bytes whose top byte only repeats the sign"
pub data WrongScalar (d s : List ℕ) (row f q z : ℕ) : Type 0 where
  integer_short : f ≡ integer_form → z < q + integer_least → WrongScalar d s row f q z
  integer_long : f ≡ integer_form → q + integer_most < z → WrongScalar d s row f q z
  integer_padded : f ≡ integer_form → SignRepeated (slice q z s) → WrongScalar d s row f q z
  no_boolean : f ≡ boolean_form → ((b : Bool) → slice q z s ≡ boolean_byte b ∷ [] → ⊥) → WrongScalar d s row f q z
  no_string : f ≡ string_form → ((t : List ℕ) → Spelt t (slice q z s) → ⊥) → WrongScalar d s row f q z
  unknown_option : (n p : ℕ) → f ≡ enum_form → Read s q z n p → found (child_numbered d row n) ≡ false → WrongScalar d s row f q z
  option_left : (n p : ℕ) → f ≡ enum_form → Read s q z n p → p < z → WrongScalar d s row f q z
  null_with_bytes : f ≡ null_form → q < z → WrongScalar d s row f q z

-- "10: value wrong", a scalar or, after all its tuples, a set or array in which bytes are left: they end at z, and it ends at q
pub data ValueWrong (d s : List ℕ) (x : Spot) : Type 0 where
  wrong_scalar : (n f q z : ℕ) → Measured s x n f q z → WrongScalar d s (x.row_for n) f q z → ValueWrong d s x
  left_over : (row q room n p z m : ℕ) (t : Tuples) → Counted s x row q room n p → Many d room s row n 0 [] p q (x.left - 1) z m t → z < q → ValueWrong d s x

-- "11: depth passed"
pub data TooDeep (s : List ℕ) (x : Spot) : Type 0 where
  too_deep_at : (n f q z : ℕ) → Measured s x n f q z → is_group f ≡ true → x.room ≡ 0 → TooDeep s x

-- "12: a tuple begins with the budget spent"
abbrev pub BudgetSpent : Spot → Type 0
BudgetSpent x = x.left ≡ 0

-- a length within the table
pub record InTable (s : List ℕ) : Type 0 where
  pub least : payload_least ≤ length s
  pub most : length s ≤ payload_most

-- a header, whatever follows
abbrev pub WithHeader : List ℕ → Type 0
WithHeader s = (f : ℕ) × (g : ℕ) × (body : List ℕ) × (s ≡ header_with f g ++ body)

-- 1, 2 and 3 are passed
pub record Passed (d s : List ℕ) : Type 0 where
  pub accepting : accepts d ≡ true
  pub in_table : InTable s
  pub headed : WithHeader s

-- the first z bytes are a payload that means something, within the budget
pub record Front (d s : List ℕ) (budget z : ℕ) : Type 0 where
  pub text : List ℕ
  pub tuples : ℕ
  pub means : Means d (take z s) text tuples
  pub enough : tuples ≤ budget

-- a text within the lent buffer and the table
pub record Roomy (room : ℕ) (t : List ℕ) : Type 0 where
  pub small : length t ≤ room
  pub few : length t ≤ text_most

-- all else right, and a text that is too long
pub record Overlong (d s : List ℕ) (budget room : ℕ) : Type 0 where
  pub text : List ℕ
  pub tuples : ℕ
  pub means : Means d s text tuples
  pub enough : tuples ≤ budget
  pub too_long : Roomy room text → ⊥

-- the table, with the place of each line; "1, 2, 3 are tested in that order before the root"
pub data Line (d s : List ℕ) (budget room k w : ℕ) : Type 0 where
  line_1 : k ≡ dictionary_wrong → w ≡ 0 → accepts d ≡ false → Line d s budget room k w
  line_2 : k ≡ length_wrong → w ≡ 0 → accepts d ≡ true → (InTable s → ⊥) → Line d s budget room k w
  line_3 : k ≡ header_differs → w ≡ 0 → accepts d ≡ true → InTable s → (WithHeader s → ⊥) → Line d s budget room k w
  line_4 : k ≡ past_end → Passed d s → Somewhere d s budget (PastEnd s) w → Line d s budget room k w
  line_5 : k ≡ width_wrong → Passed d s → Somewhere d s budget (WidthWrong s) w → Line d s budget room k w
  line_6 : k ≡ not_known → Passed d s → Somewhere d s budget (NotKnown s) w → Line d s budget room k w
  line_7 : k ≡ given_twice → Passed d s → Somewhere d s budget (GivenTwice s) w → Line d s budget room k w
  line_8 : k ≡ not_in_base → Passed d s → Somewhere d s budget (NotInBase s) w → Line d s budget room k w
  line_9 : k ≡ misfit → Passed d s → Somewhere d s budget (Misfit s) w → Line d s budget room k w
  line_10 : k ≡ value_wrong → Passed d s → Somewhere d s budget (ValueWrong d s) w → Line d s budget room k w
  line_11 : k ≡ too_deep → Passed d s → Somewhere d s budget (TooDeep s) w → Line d s budget room k w
  line_12 : k ≡ budget_spent → Passed d s → Somewhere d s budget BudgetSpent w → Line d s budget room k w
  line_13 : k ≡ after_root → Passed d s → w < length s → Front d s budget w → Line d s budget room k w
  line_14 : k ≡ no_room → w ≡ 0 → Passed d s → Overlong d s budget room → Line d s budget room k w
