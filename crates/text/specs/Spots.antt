-- Where a text stands, before a token: what is due there, and inside which objects and arrays. Document 01, "The text": "Tokens are judged in text order." With no order of checks: a token that is right where
-- it stands leads to the next spot.
--   Frame              an object or array whose bracket is open
--   Spot               what is due, and the frames around it, the innermost first
--   due x k            what the token k is at a spot: a bracket that closes may stand where a first member may
--   in_turn x k         the token k is in turn where x is due
--   Suits, Tells       a value's token suits a row; and, where it opens nothing, tells a scalar there
--   Steps d x k y      the token k is right where x is due, and y is due after it
--   Reached d s x p    all tokens of s before the place p are right, and x is due there
use Rattle.std.specs.Prelude.{ℕ, suc, ◌-◌, ◌≡◌, List, [], ◌∷◌, Bool, true, false, ◌||◌, Some}
use Rattle.paper.specs.Limits.{depth_most}
use Rattle.paper.specs.Checks.{choose, good}
use Rattle.numbers.specs.declared.Integer.{Integer}
use Rattle.numbers.specs.Integer.{Held}
use Rattle.numbers.specs.Decimal.{decimal_of}
use Rattle.dictionary.specs.Rows.{number_in}
use Rattle.dictionary.specs.Children.{child_named}
use Rattle.payload.specs.declared.Shape.{Shape}
use Rattle.payload.specs.declared.Shape.TheVariants.{Set, Array}
use Rattle.payload.specs.Fits.{child, fresh, fits}
use Rattle.payload.specs.Text.{comma, colon, opens, closes}
use Rattle.text.specs.Tokens.{Token, a_sign, a_string, a_null, a_boolean, an_integer, a_real, space}
use Rattle.text.specs.Scanning.{past, token_at}
use Rattle.text.specs.Values.{is_sign, begins, in_base, is_enum, form_for}

-- its shape and row, the nesting left inside it, the position of its next member, and the numbers of those before that
pub record Frame : Type 0 where
  pub shape : Shape
  pub row : ℕ
  pub room : ℕ
  pub index : ℕ
  pub seen : List ℕ

-- one that has just been opened
abbrev pub entered : Shape → ℕ → ℕ → Frame
entered g row room = record { shape = g; row = row; room = room; index = 0; seen = [] }

-- the member n stands in it
abbrev pub holding : ℕ → Frame → Frame
holding n f = record { shape = f.shape; row = f.row; room = f.room; index = suc f.index; seen = n ∷ f.seen }

pub data Spot : Type 0 where
  -- the root
  root_due : Spot
  -- after a bracket that opens: a first member, or the bracket that closes
  first_due : Frame → List Frame → Spot
  -- a member's name; the colon after that of member n; the value of member n
  name_due : Frame → List Frame → Spot
  colon_due : ℕ → Frame → List Frame → Spot
  value_due : ℕ → Frame → List Frame → Spot
  -- after a member: a comma, or the bracket that closes
  part_due : Frame → List Frame → Spot
  -- nothing: the root is closed
  root_closed : Spot

-- a member of an object begins with its name; "An array's tuples carry their index from 0", and no name
abbrev pub member_of : Shape → Frame → List Frame → Spot
member_of Set f up = name_due f up
member_of Array f up = value_due f.index f up

abbrev pub member_due : Frame → List Frame → Spot
member_due f up = member_of f.shape f up

-- after the bracket that closes
abbrev pub leave : List Frame → Spot
leave [] = root_closed
leave (f ∷ up) = part_due f up

unfoldable pub due : Spot → Token → Spot
due root_due k = root_due
due (first_due f up) k = choose (is_sign (closes f.shape) k) (λ _. part_due f up) (λ _. member_due f up)
due (name_due f up) k = name_due f up
due (colon_due n f up) k = colon_due n f up
due (value_due n f up) k = value_due n f up
due (part_due f up) k = part_due f up
due root_closed k = root_closed

abbrev pub is_string : Token → Bool
is_string (a_sign b) = false
is_string (a_string t) = true
is_string a_null = false
is_string (a_boolean b) = false
is_string (an_integer w) = false
is_string (a_real w) = false

abbrev pub is_null : Token → Bool
is_null (a_sign b) = false
is_null (a_string t) = false
is_null a_null = true
is_null (a_boolean b) = false
is_null (an_integer w) = false
is_null (a_real w) = false

-- "fraction or exponent"
abbrev pub is_real : Token → Bool
is_real (a_sign b) = false
is_real (a_string t) = false
is_real a_null = false
is_real (a_boolean b) = false
is_real (an_integer w) = false
is_real (a_real w) = true

-- the grammar of RFC 8259: any value may be a root. Of spots as `due` has them, which are no first ones
unfoldable pub in_turn : Spot → Token → Bool
in_turn root_due k = begins k
in_turn (first_due f up) k = false
in_turn (name_due f up) k = is_string k
in_turn (colon_due n f up) k = is_sign colon k
in_turn (value_due n f up) k = begins k
in_turn (part_due f up) k = is_sign comma k || is_sign (closes f.shape) k
in_turn root_closed k = false

module _ (d : List ℕ) where
  -- a value's token, at a row: no fraction or exponent, the row's format is in the base or the value is null, and the token's own format fits
  pub record Suits (row : ℕ) (k : Token) : Type 0 where
    pub plain : is_real k ≡ false
    pub based : in_base d row || is_null k ≡ true
    pub fitting : fits d row (form_for d row k) ≡ true

  -- "Integers hold what 8 bytes hold"; "enum options as strings"
  pub data Tells (row : ℕ) (k : Token) : Type 0 where
    tells_null : k ≡ a_null → Tells row k
    tells_boolean : (b : Bool) → k ≡ a_boolean b → Tells row k
    tells_integer : (i : Integer) → Held i → k ≡ an_integer (decimal_of i) → Tells row k
    tells_option : (t : List ℕ) (c : ℕ) → k ≡ a_string t → is_enum d row ≡ true → child_named d row t ≡ Some c → Tells row k
    tells_string : (t : List ℕ) → k ≡ a_string t → is_enum d row ≡ false → Tells row k

  pub data Steps (x : Spot) (k : Token) (y : Spot) : Type 0 where
    opens_root : x ≡ root_due → k ≡ a_sign (opens Set) → y ≡ first_due (entered Set 0 (depth_most - 1)) [] → Steps x k y
    names : (f : Frame) (up : List Frame) (t : List ℕ) (c : ℕ) → x ≡ name_due f up → k ≡ a_string t → child_named d f.row t ≡ Some c → fresh d f.row f.seen (number_in d c) ≡ true → y ≡ colon_due (number_in d c) f up → Steps x k y
    binds : (n : ℕ) (f : Frame) (up : List Frame) → x ≡ colon_due n f up → k ≡ a_sign colon → y ≡ value_due n f up → Steps x k y
    tells : (n : ℕ) (f : Frame) (up : List Frame) → x ≡ value_due n f up → Suits (child d f.row n) k → Tells (child d f.row n) k → y ≡ part_due (holding n f) up → Steps x k y
    opens_group : (n : ℕ) (f : Frame) (up : List Frame) (g : Shape) (room : ℕ) → x ≡ value_due n f up → k ≡ a_sign (opens g) → Suits (child d f.row n) k → f.room ≡ suc room → y ≡ first_due (entered g (child d f.row n) room) (holding n f ∷ up) → Steps x k y
    parts : (f : Frame) (up : List Frame) → x ≡ part_due f up → k ≡ a_sign comma → y ≡ member_due f up → Steps x k y
    closes_group : (f : Frame) (up : List Frame) → x ≡ part_due f up → k ≡ a_sign (closes f.shape) → y ≡ leave up → Steps x k y

  -- the token after the spaces from q on ends at p
  pub data Reached (s : List ℕ) : Spot → ℕ → Type 0 where
    at_start : {x : Spot} {p : ℕ} → x ≡ root_due → p ≡ 0 → Reached s x p
    further : {x : Spot} {p : ℕ} (y : Spot) (q : ℕ) (k : Token) → Reached s y q → token_at s (past space s q) ≡ good p 0 k → Steps (due y k) k x → Reached s x p
