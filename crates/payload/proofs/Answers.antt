-- A small dictionary and a few payloads: what the definitions answer to them, by computation alone. A definition that is wrong in one of these ways is refused here, whatever the proofs of the theorems are like.
-- Assumes nothing.
--   small         a set of two children, which are the set itself ("s") and an integer ("i")
--   Asked, asked  a payload, a budget, and what is to come of it; the table
use Prim.Native.Nat.{ℕ}
use mathlib.Core.Path.{◌≡◌, refl}
use mathlib.Core.List.{List, [], ◌∷◌, map}
use Rattle.paper.specs.Tests.{all, same, among}
use Rattle.numbers.specs.Bytes.{little, short, long}
use Rattle.numbers.specs.Number.{number_at}
use Rattle.numbers.specs.Integer.{flip, integer_of, sign_repeated, is_integer}
use Rattle.numbers.specs.Decimal.{digits, decimal, decimal_of}
use Rattle.dictionary.specs.Rows.{name}
use Rattle.dictionary.specs.Accepts as Accepts
use Rattle.dictionary.specs.Accepts.{childless, block_fine, in_turn, unlike, member, string_child, set_fine, array_fine, enum_fine, leaf_form, children_fine, name_byte, name_fine, row_fine, accepts}
use Rattle.dictionary.specs.Children.{seek, child_numbered}
use Rattle.payload.specs.Strings.{string_byte, well_spelt}
use Rattle.payload.specs.Header.{header_agrees}
use Rattle.payload.specs.Tree.{size, count}
use Rattle.payload.specs.Fits.{known, child, fresh, fits}
use Rattle.payload.specs.Text.{label, text_of}
use Rattle.payload.specs.Values.{integer_value, boolean_value, option_value, string_value, scalar_value}
use Rattle.payload.specs.Reading.{Outcome, refusal, result, supported, tuple_at, run, inside_of, root_at, tree_of, reads}
use Rattle.payload.specs.Reading as Reading

abbrev pub small : List ℕ
small =
    0x00 ∷ 0x00 ∷ 0x03 ∷ 0x00 ∷ 0x00 ∷ 0xF0 ∷ 0xF0 ∷ 0xF1 ∷ 0x2E ∷ 0x00 ∷ 0x00 ∷ 0x00
    ∷ 0x00 ∷ 0x00 ∷ 0x00 ∷ 0x16 ∷ 0x00 ∷ 0x02 ∷ 0x00 ∷ 0x00 ∷ 0x00 ∷ 0x00
    ∷ 0x00 ∷ 0x00 ∷ 0x00 ∷ 0x16 ∷ 0x00 ∷ 0x02 ∷ 0x00 ∷ 0x02 ∷ 0x2A ∷ 0x00
    ∷ 0x34 ∷ 0x01 ∷ 0x00 ∷ 0x00 ∷ 0x00 ∷ 0x00 ∷ 0x00 ∷ 0x02 ∷ 0x2C ∷ 0x00
    ∷ 0x73 ∷ 0x00 ∷ 0x69 ∷ 0x00
    ∷ []

pub record Asked : Type 0 where
  pub payload : List ℕ
  pub budget : ℕ
  pub comes : Outcome

abbrev after : List ℕ → ℕ → Outcome → Asked
after root budget outcome = record { payload = 0x00 ∷ 0xF0 ∷ 0xF0 ∷ 0xF1 ∷ 0x00 ∷ 0x00 ∷ 0x00 ∷ root; budget = budget; comes = outcome }

unfoldable pub asked : List Asked
asked =
    -- {"i":12}, in two tuples
    after (1 ∷ 0 ∷ 0x00 ∷ 1 ∷ 8 ∷ 1 ∷ 1 ∷ 1 ∷ 2 ∷ 0x30 ∷ 1 ∷ 1 ∷ 12 ∷ []) 2 (result (123 ∷ 34 ∷ 105 ∷ 34 ∷ 58 ∷ 49 ∷ 50 ∷ 125 ∷ []) 2)
    -- its L is 2, and the byte after its set is the root's own next tuple
    ∷ after (1 ∷ 0 ∷ 0x00 ∷ 1 ∷ 21 ∷ 1 ∷ 2 ∷ 1 ∷ 0 ∷ 0x00 ∷ 1 ∷ 8 ∷ 1 ∷ 1 ∷ 1 ∷ 2 ∷ 0x30 ∷ 1 ∷ 2 ∷ 12 ∷ 1 ∷ 2 ∷ 0x30 ∷ 1 ∷ 1 ∷ 12 ∷ []) 9 (refusal 4 21)
    -- a real, at the integer's row
    ∷ after (1 ∷ 0 ∷ 0x00 ∷ 1 ∷ 8 ∷ 1 ∷ 1 ∷ 1 ∷ 2 ∷ 0x60 ∷ 1 ∷ 1 ∷ 12 ∷ []) 2 (refusal 8 14)
    -- one tuple too many for the budget; the same child twice; a byte left in the root; a byte after it
    ∷ after (1 ∷ 0 ∷ 0x00 ∷ 1 ∷ 8 ∷ 1 ∷ 1 ∷ 1 ∷ 2 ∷ 0x30 ∷ 1 ∷ 1 ∷ 12 ∷ []) 1 (refusal 12 14)
    ∷ after (1 ∷ 0 ∷ 0x00 ∷ 1 ∷ 14 ∷ 1 ∷ 2 ∷ 1 ∷ 2 ∷ 0x30 ∷ 1 ∷ 1 ∷ 12 ∷ 1 ∷ 2 ∷ 0x30 ∷ 1 ∷ 1 ∷ 12 ∷ []) 9 (refusal 7 20)
    ∷ after (1 ∷ 0 ∷ 0x00 ∷ 1 ∷ 3 ∷ 1 ∷ 0 ∷ 0 ∷ []) 9 (refusal 10 7)
    ∷ after (1 ∷ 0 ∷ 0x00 ∷ 1 ∷ 2 ∷ 1 ∷ 0 ∷ 0 ∷ []) 9 (refusal 13 14)
    ∷ []

pub small-answered : map (λ x. reads small x.payload x.budget 99) asked ≡ map (λ x. x.comes) asked
unfolding asked all same among little short long number_at flip integer_of sign_repeated is_integer digits decimal decimal_of name
    Accepts.header_fine childless block_fine in_turn unlike member string_child set_fine array_fine enum_fine leaf_form children_fine name_byte name_fine row_fine accepts
    seek child_numbered string_byte well_spelt header_agrees size count known child fresh fits label text_of
    integer_value boolean_value option_value string_value scalar_value supported Reading.asked tuple_at run inside_of root_at tree_of reads
small-answered = refl
