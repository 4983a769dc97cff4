-- Inside the code's contracts alone: nobody needs to believe this page.
-- What the second pass needs and writes: the text of the tree that its bytes write. The first pass has judged, so each of its records says that something is known to be right.
--   past s p                  the place after the number that stands at p
--   Framed, PartsMet          a tuple's S, F and L stand whole before V; what they say
--   boolean_text              by the byte of a boolean
--   option_text, Optional     the option whose number stands first in V, and that it is one of the row's
--   labelled, lead            a member's name, and what stands before it, by the row that it has
--   shown, AcceptedIn         the text of the value of a set or array, and that it is one
--   word_at, PlainIn          the text of a scalar, and that it is one of the row's
--   value_text, Worth         of either, by its format
--   payload_text, Accepted    the text of a payload, and that it is one
use Rattle.std.specs.Prelude.{ℕ, suc, ◌+◌, ◌/◌, ◌^◌, ◌≤◌, ◌<◌, ◌≡◌, List, [], ◌∷◌, ◌++◌, true, false, length, eqb, IsSome}
use Rattle.paper.specs.Checks.{choose, Judged, refused, good}
use Rattle.numbers.specs.Bytes.{byte}
use Rattle.numbers.specs.Number.{Number, number_value}
use Rattle.numbers.specs.Met.{Standing}
use Rattle.dictionary.specs.Rows.{entries, kind, name}
use Rattle.dictionary.specs.Accepts.{accepts}
use Rattle.dictionary.specs.Children.{child_numbered}
use Rattle.dictionary.specs.Given.{Row, parent}
use Rattle.payload.specs.declared.Shape.{Shape}
use Rattle.payload.specs.declared.Shape.TheVariants.{Set, Array}
use Rattle.payload.specs.Tree.{Scalar, null, Tuples, none, format_of, boolean_byte, size}
use Rattle.payload.specs.Writes.{Cut, Holds, Writes}
use Rattle.payload.specs.Fits.{GroupRow, Fits, row_of, fits, allowed}
use Rattle.payload.specs.Text.{quoted, colon, true_text, false_text, opens, closes, word, comma_at, text_of, root_text}
use Rattle.payload.specs.Values.{Valued, wrong, worth, scalar_value}
use Rattle.payload.specs.Reading.{is_group, shape_of, inside_of, tree_of}
use Rattle.reader_render.specs.declared.tuple.Parts.{Parts}

abbrev pub past : List ℕ → ℕ → ℕ
past s p = p + 1 + byte s p

-- "A tuple: S, F, L, V. S is a number: bit 0 picks the dictionary .., the rest is the sequence number. F is one byte .. L is the byte length of V."
abbrev pub sequence_of : List ℕ → ℕ → ℕ
sequence_of s p = number_value s p / 2

abbrev pub form_of : List ℕ → ℕ → ℕ
form_of s p = byte s (past s p) / 16

abbrev pub from_of : List ℕ → ℕ → ℕ
from_of s p = past s (past s p + 1)

abbrev pub to_of : List ℕ → ℕ → ℕ
to_of s p = from_of s p + number_value s (past s p + 1)

pub record Framed (s : List ℕ) (p : ℕ) : Type 0 where
  pub sequence : Standing s p
  pub size : Standing s (past s p + 1)
  pub within : to_of s p ≤ length s

-- the parts of the tuple at p
pub record PartsMet (s : List ℕ) (p : ℕ) (t : Parts) : Type 0 where
  pub is_number : t.number ≡ sequence_of s p
  pub small : t.number < 2 ^ 32
  pub is_form : t.form ≡ form_of s p
  pub is_from : t.from ≡ from_of s p
  pub is_to : t.to ≡ to_of s p

abbrev pub boolean_text : ℕ → List ℕ
boolean_text x = choose (eqb x (boolean_byte false)) (λ _. false_text) (λ _. true_text)

-- the row of the option
abbrev pub option_row : List ℕ → ℕ → List ℕ → ℕ
option_row d row v = row_of (child_numbered d row (number_value v 0))

abbrev pub option_text : List ℕ → ℕ → List ℕ → List ℕ
option_text d row v = quoted (name d (option_row d row v))

pub record Optional (d : List ℕ) (row : ℕ) (v : List ℕ) : Type 0 where
  pub own : Row d row
  pub holds : parent d row ≡ true
  pub stands : Standing v 0
  pub known : IsSome (child_numbered d row (number_value v 0))
  pub inside : option_row d row v < entries d

-- of a member of a value of the shape g, whose own row is `row`
abbrev pub labelled : List ℕ → Shape → ℕ → List ℕ
labelled d Set row = quoted (name d row) ++ (colon ∷ [])
labelled d Array row = []

abbrev pub lead : List ℕ → Shape → ℕ → ℕ → List ℕ
lead d g row i = comma_at i ++ labelled d g row

abbrev pub tree_in : Judged Tuples → Tuples
tree_in (refused k w) = none
tree_in (good z l t) = t

abbrev pub bracketed : Shape → List ℕ → List ℕ
bracketed g t = opens g ∷ (t ++ (closes g ∷ []))

-- the value v of a set or array at the row. No value has as many tuples as bytes, and none nests as deep, so neither limit ever tells
unfoldable pub shown : List ℕ → ℕ → List ℕ → List ℕ
shown d row v = bracketed (shape_of (kind d row)) (text_of d (tree_in (inside_of d v (suc (length v)) row 0 0 (length v) (length v))) row 0)

-- the row is a set or array, and the bytes write a tree that fits it
pub record AcceptedIn (d : List ℕ) (row : ℕ) (v : List ℕ) : Type 0 where
  pub holder : GroupRow d row
  pub tree : Tuples
  pub written : Cut (Number (size tree)) (Writes tree) v
  pub fitting : Fits d tree row 0 []

abbrev pub scalar_in : Valued → Scalar
scalar_in (wrong k) = null
scalar_in (worth x) = x

-- the value v of the format f at the row
abbrev pub word_at : List ℕ → ℕ → ℕ → List ℕ → List ℕ
word_at d row f v = word d row (scalar_in (scalar_value d row f v))

pub record PlainIn (d : List ℕ) (row f : ℕ) (v : List ℕ) : Type 0 where
  pub own : Row d row
  pub value : Scalar
  pub format : format_of value ≡ f
  pub fitting : fits d row f ≡ true
  pub holds : Holds value v
  pub allows : allowed d row value ≡ true

unfoldable pub value_text : List ℕ → ℕ → ℕ → List ℕ → List ℕ
value_text d row f v = choose (is_group f) (λ _. shown d row v) (λ _. word_at d row f v)

pub data Worth (d : List ℕ) (row f : ℕ) (v : List ℕ) : Type 0 where
  as_scalar : PlainIn d row f v → Worth d row f v
  as_group : f < 2 → AcceptedIn d row v → Worth d row f v

unfoldable pub payload_text : List ℕ → List ℕ → List ℕ
payload_text d s = root_text d (tree_in (tree_of d s (length s)))

-- whatever the budget
pub record Accepted (d s : List ℕ) : Type 0 where
  pub accepted : accepts d ≡ true
  pub budget : ℕ
  pub end : ℕ
  pub left : ℕ
  pub tree : Tuples
  pub found : tree_of d s budget ≡ good end left tree
