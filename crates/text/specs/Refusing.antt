-- Document 01, "What a refusal says": the table, line by line, for the writer. 1, 2, 13 and 14 speak of the whole call. 6 to 11 and 15 speak of a spot that is reached and of what stands there: "A token's own
-- grammar and its turn come first (15); then for a name 6, 7; for a value: fraction or exponent 8, row of a format not in the base and value not null 8, fit 9, depth 11, value 10." Each line says that the
-- checks before it are passed.
--   Broken s p w            15, a token's own grammar: no token begins at p
--   NotKnown .. BadText     the lines of one spot
--   Somewhere P w           a spot that is reached fails as P says, with the place w
--   Right, Followed, Overlong   all right; 13 and 14
--   Line d s room k w       the table: when number k is given, and with which place w
use Rattle.std.specs.Prelude.{ℕ, suc, ◌+◌, ◌<◌, ◌≤◌, ◌≡◌, List, [], true, false, ◌||◌, length, take, Some, None}
use Rattle.std.proofs.Math.Seq.{slice}
use Rattle.paper.specs.Limits.{payload_most, text_least, text_most, depth_most}
use Rattle.paper.specs.Refusals.{dictionary_wrong, length_wrong, not_known, given_twice, not_in_base, misfit, value_wrong, too_deep, after_root, no_room, bad_text}
use Rattle.paper.specs.Checks.{good}
use Rattle.numbers.specs.declared.Integer.{Integer}
use Rattle.numbers.specs.Bytes.{byte}
use Rattle.numbers.specs.Integer.{Held}
use Rattle.numbers.specs.Decimal.{decimal_of, integral}
use Rattle.dictionary.specs.Rows.{number_in}
use Rattle.dictionary.specs.Children.{child_named}
use Rattle.dictionary.specs.Accepts.{accepts}
use Rattle.payload.specs.Tree.{Scalar, null, integer, option, string, boolean, Tuples, none, scalar, inner, depth}
use Rattle.payload.specs.declared.Shape.{Shape}
use Rattle.payload.specs.declared.Shape.TheVariants.{Set}
use Rattle.payload.specs.Strings.{string_byte, well_spelt}
use Rattle.payload.specs.Fits.{child, fresh, fits, Fits}
use Rattle.payload.specs.Text.{quote, opens, null_text, true_text, false_text}
use Rattle.text.specs.Tokens.{Token, a_sign, a_string, an_integer, space, sign, word_byte}
use Rattle.text.specs.Numerals.{numeral}
use Rattle.text.specs.Scanning.{past, token_at}
use Rattle.text.specs.Values.{begins, in_base, is_enum, form_for}
use Rattle.text.specs.Shortest.{payload_of}
use Rattle.text.specs.Spells.{Spells, root_tokens}
use Rattle.text.specs.Spots.{Frame, Spot, root_due, name_due, value_due, root_closed, due, in_turn, is_null, is_real, Suits, Reached}

-- "text breaks the grammar, or has an escape or a string byte not allowed": "token; text length where it ends early"
pub data Broken (s : List ℕ) (p w : ℕ) : Type 0 where
  -- the text ends where a token is due, or inside a string
  no_more : length s ≤ p → w ≡ length s → Broken s p w
  unclosed : p < length s → byte s p ≡ quote → length s ≤ past string_byte s (p + 1) → w ≡ length s → Broken s p w
  -- a string meets a byte that is none of a string's, and not its quote
  wrong_byte : p < length s → byte s p ≡ quote → past string_byte s (p + 1) < length s → (byte s (past string_byte s (p + 1)) ≡ quote → ⊥) → w ≡ p → Broken s p w
  -- "the longest run of letters, digits and `+-.`" is no word and no number, and no run is either
  no_word : p < length s → sign (byte s p) ≡ false → (byte s p ≡ quote → ⊥) → (v : List ℕ) → v ≡ slice p (past word_byte s p) s → (v ≡ null_text → ⊥) → (v ≡ true_text → ⊥) → (v ≡ false_text → ⊥) → integral v ≡ false → numeral v ≡ false → w ≡ p → Broken s p w

-- the value of a row is due, with so much nesting left
pub record OfRow (d : List ℕ) (x : Spot) (row room : ℕ) : Type 0 where
  pub number : ℕ
  pub frame : Frame
  pub around : List Frame
  pub here : x ≡ value_due number frame around
  pub row_is : child d frame.row number ≡ row
  pub room_is : frame.room ≡ room

-- the lines of a token k where x is due
module _ (d : List ℕ) (x : Spot) (k : Token) where
  -- "6: .. name not known"
  pub data NotKnown : Type 0 where
    not_known_at : (f : Frame) (up : List Frame) (t : List ℕ) → x ≡ name_due f up → k ≡ a_string t → child_named d f.row t ≡ None → NotKnown

  -- "7: child given twice in one set"
  pub data GivenTwice : Type 0 where
    given_twice_at : (f : Frame) (up : List Frame) (t : List ℕ) (c : ℕ) → x ≡ name_due f up → k ≡ a_string t → child_named d f.row t ≡ Some c → fresh d f.row f.seen (number_in d c) ≡ false → GivenTwice

  -- "8: .. format or number kind not in the base"
  pub data NotInBase : Type 0 where
    root_real : x ≡ root_due → is_real k ≡ true → NotInBase
    real : (row room : ℕ) → OfRow d x row room → is_real k ≡ true → NotInBase
    unbased : (row room : ℕ) → OfRow d x row room → begins k ≡ true → in_base d row ≡ false → is_null k ≡ false → NotInBase

  -- "9: format doesn't fit the row; root no set"
  pub data Misfit : Type 0 where
    root_no_set : x ≡ root_due → begins k ≡ true → is_real k ≡ false → (k ≡ a_sign (opens Set) → ⊥) → Misfit
    misfitting : (row room : ℕ) → OfRow d x row room → begins k ≡ true → is_real k ≡ false → in_base d row || is_null k ≡ true → fits d row (form_for d row k) ≡ false → Misfit

  -- "10: value wrong: integer .. range, .. enum option"; "`-0` is 10"
  pub data ValueWrong : Type 0 where
    no_integer : (row room : ℕ) (v : List ℕ) → OfRow d x row room → Suits d row k → k ≡ an_integer v → ((i : Integer) → Held i → decimal_of i ≡ v → ⊥) → ValueWrong
    no_option : (row room : ℕ) (t : List ℕ) → OfRow d x row room → Suits d row k → k ≡ a_string t → is_enum d row ≡ true → child_named d row t ≡ None → ValueWrong

  -- "11: depth passed"
  pub data TooDeep : Type 0 where
    too_deep_at : (row : ℕ) (g : Shape) → OfRow d x row 0 → k ≡ a_sign (opens g) → Suits d row k → TooDeep

module _ (s : List ℕ) where
  -- the next token after p fails as P says; its place is where it begins
  pub record AtToken (P : Spot → Token → Type 0) (x : Spot) (p w : ℕ) : Type 0 where
    pub token : Token
    pub to : ℕ
    pub stands : token_at s (past space s p) ≡ good to 0 token
    pub fails : P (due x token) token
    pub place : w ≡ past space s p

  -- "15": "A token's own grammar and its turn"
  pub data BadText (x : Spot) (p w : ℕ) : Type 0 where
    broken : Broken s (past space s p) w → BadText x p w
    out_of_turn : AtToken (λ y k. in_turn y k ≡ false) x p w → BadText x p w

module _ (d s : List ℕ) where
  -- "up to the root's end"
  pub record Somewhere (P : Spot → ℕ → ℕ → Type 0) (w : ℕ) : Type 0 where
    pub spot : Spot
    pub from : ℕ
    pub reached : Reached d s spot from
    pub asks : spot ≡ root_closed → ⊥
    pub fails : P spot from w

-- a length within the table
pub record InTable (s : List ℕ) : Type 0 where
  pub least : text_least ≤ length s
  pub most : length s ≤ text_most

-- 1 and 2 are passed
pub record Passed (d s : List ℕ) : Type 0 where
  pub accepting : accepts d ≡ true
  pub in_table : InTable s

-- values that bytes hold: 8 bytes an integer's, "string bytes as above"
abbrev pub Holdable : Scalar → Type 0
Holdable null = Unit {0}
Holdable (integer i) = Held i
Holdable (option n) = Unit {0}
Holdable (string t) = well_spelt t ≡ true
Holdable (boolean b) = Unit {0}

unfoldable pub AllHoldable : Tuples → Type 0
AllHoldable none = Unit {0}
AllHoldable (scalar n x rest) = Holdable x × AllHoldable rest
AllHoldable (inner n g kids rest) = AllHoldable kids × AllHoldable rest

-- bytes within the lent buffer and the table
pub record Roomy (room : ℕ) (b : List ℕ) : Type 0 where
  pub small : length b ≤ room
  pub few : length b ≤ payload_most

-- a text that spells a tree that fits
pub record Right (d s : List ℕ) : Type 0 where
  pub tree : Tuples
  pub spells : Spells (root_tokens d tree) s
  pub fitting : Fits d tree 0 0 []
  pub holdable : AllHoldable tree
  pub shallow : suc (depth tree) ≤ depth_most

-- "13: bytes after the root, in text other than spaces": "first such byte". What stands before it is right
pub record Followed (d s : List ℕ) (w : ℕ) : Type 0 where
  pub front : Right d (take w s)
  pub inside : w < length s
  pub no_space : space (byte s w) ≡ false

-- "14: all else right, result longer than the lent buffer or the table's limit"
pub record Overlong (d s : List ℕ) (room : ℕ) : Type 0 where
  pub whole : Right d s
  pub too_long : Roomy room (payload_of whole.tree) → ⊥

-- the table, with the place of each line; "1, 2, 3 are tested in that order before the root", and a text has no header, and so no 3
pub data Line (d s : List ℕ) (room k w : ℕ) : Type 0 where
  line_1 : k ≡ dictionary_wrong → w ≡ 0 → accepts d ≡ false → Line d s room k w
  line_2 : k ≡ length_wrong → w ≡ 0 → accepts d ≡ true → (InTable s → ⊥) → Line d s room k w
  line_6 : k ≡ not_known → Passed d s → Somewhere d s (AtToken s (NotKnown d)) w → Line d s room k w
  line_7 : k ≡ given_twice → Passed d s → Somewhere d s (AtToken s (GivenTwice d)) w → Line d s room k w
  line_8 : k ≡ not_in_base → Passed d s → Somewhere d s (AtToken s (NotInBase d)) w → Line d s room k w
  line_9 : k ≡ misfit → Passed d s → Somewhere d s (AtToken s (Misfit d)) w → Line d s room k w
  line_10 : k ≡ value_wrong → Passed d s → Somewhere d s (AtToken s (ValueWrong d)) w → Line d s room k w
  line_11 : k ≡ too_deep → Passed d s → Somewhere d s (AtToken s (TooDeep d)) w → Line d s room k w
  line_13 : k ≡ after_root → Passed d s → Followed d s w → Line d s room k w
  line_14 : k ≡ no_room → w ≡ 0 → Passed d s → Overlong d s room → Line d s room k w
  line_15 : k ≡ bad_text → Passed d s → Somewhere d s (BadText s) w → Line d s room k w
