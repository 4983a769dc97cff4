-- A few texts under the small dictionary of payload/proofs/Answers: what the definitions answer to them, by computation alone. A definition that is wrong in one of these ways is refused here, whatever the
-- proofs of the theorems are like.
-- Assumes nothing.
--   Asked, asked  a text, and what is to come of it; the table
--   refusals      texts for the lines of the table, in a buffer of 13 bytes: 1 asks for no text, and 11 stands in `asked`
use Prim.Native.Nat.{ℕ, zero, suc}
use mathlib.Core.Path.{◌≡◌, refl}
use mathlib.Core.List.{List, [], ◌∷◌, ◌++◌, map}
use Rattle.paper.specs.Limits.{payload_most}
use Rattle.paper.specs.Refusals.{length_wrong, not_known, given_twice, not_in_base, misfit, value_wrong, after_root, no_room, bad_text}
use Rattle.paper.specs.Tests.{all, same, among}
use Rattle.numbers.specs.Bytes.{short, long}
use Rattle.numbers.specs.Number.{fewest, number_of}
use Rattle.numbers.specs.Integer.{flip, clear, brief_of}
use Rattle.numbers.specs.Decimal.{digits_only, plain, integral, value_from, integer_said}
use Rattle.dictionary.specs.Rows.{name}
use Rattle.dictionary.specs.Accepts.{header_fine, childless, block_fine, in_turn, unlike, member, string_child, set_fine, array_fine, enum_fine, leaf_form, children_fine, name_byte, name_fine, row_fine, accepts}
use Rattle.dictionary.specs.Children.{seek, child_numbered, child_named}
use Rattle.payload.specs.Strings.{string_byte}
use Rattle.payload.specs.Tree.{size, count}
use Rattle.payload.specs.Fits.{child, fresh, fits}
use Rattle.payload.specs.Reading.{Outcome, refusal, result, supported}
use Rattle.payload.proofs.Answers.{small}
use Rattle.text.specs.Tokens.{space, sign, letter, word_byte}
use Rattle.text.specs.Numerals.{leading, exponent, fraction, numeral}
use Rattle.text.specs.Scanning.{past, string_at, numeral_at, word_at, token_at}
use Rattle.text.specs.Shortest.{tuple_of, shortest, payload_of}
use Rattle.text.specs.Values.{in_base, is_enum, form_for, misfit_for, scalar_for}
use Rattle.text.specs.Writing.{colon_at, parted_at, name_at, key_at, value_at, member_at, run, inside_of, root_at, tree_of, writes}

pub record Asked : Type 0 where
  pub text : List ℕ
  pub comes : Outcome

abbrev ask : List ℕ → Outcome → Asked
ask text outcome = record { text = text; comes = outcome }

-- {"i":12
abbrev begun : List ℕ
begun = 123 ∷ 34 ∷ 105 ∷ 34 ∷ 58 ∷ 49 ∷ 50 ∷ []

-- so many sets inside each other, each begun
unfoldable pub nested : ℕ → List ℕ
nested zero = 123 ∷ []
nested (suc n) = 123 ∷ 34 ∷ 115 ∷ 34 ∷ 58 ∷ nested n

unfoldable pub asked : List Asked
asked =
    -- {"i":12}, in two tuples
    ask (begun ++ (125 ∷ []))
    (result (0x00 ∷ 0xF0 ∷ 0xF0 ∷ 0xF1 ∷ 0x00 ∷ 0x00 ∷ 0x00 ∷ 1 ∷ 0 ∷ 0x00 ∷ 1 ∷ 8 ∷ 1 ∷ 1 ∷ 1 ∷ 2 ∷ 0x30 ∷ 1 ∷ 1 ∷ 12 ∷ []) 2)
    -- {"i":12,"i"; {"i":12}}; a 17th level
    ∷ ask (begun ++ (44 ∷ 34 ∷ 105 ∷ 34 ∷ [])) (refusal 7 8)
    ∷ ask (begun ++ (125 ∷ 125 ∷ [])) (refusal 13 8)
    ∷ ask (nested 16) (refusal 11 80)
    ∷ []

unfoldable pub refusals : List Asked
refusals =
    -- no text at all
    ask [] (refusal length_wrong 0)
    -- {"x", a name that is not known; {"i":1,"i", a child given twice
    ∷ ask (123 ∷ 34 ∷ 120 ∷ 34 ∷ []) (refusal not_known 1)
    ∷ ask (123 ∷ 34 ∷ 105 ∷ 34 ∷ 58 ∷ 49 ∷ 44 ∷ 34 ∷ 105 ∷ 34 ∷ []) (refusal given_twice 7)
    -- {"i":1.5, a fraction; {"i":{, no integer; [, a root that is no object; {"i":-0
    ∷ ask (123 ∷ 34 ∷ 105 ∷ 34 ∷ 58 ∷ 49 ∷ 46 ∷ 53 ∷ []) (refusal not_in_base 5)
    ∷ ask (123 ∷ 34 ∷ 105 ∷ 34 ∷ 58 ∷ 123 ∷ []) (refusal misfit 5)
    ∷ ask (91 ∷ []) (refusal misfit 0)
    ∷ ask (123 ∷ 34 ∷ 105 ∷ 34 ∷ 58 ∷ 45 ∷ 48 ∷ []) (refusal value_wrong 5)
    -- {} x; {} in a buffer of one byte less than it takes
    ∷ ask (123 ∷ 125 ∷ 32 ∷ 120 ∷ []) (refusal after_root 3)
    ∷ ask (123 ∷ 125 ∷ []) (refusal no_room 0)
    -- { and {"i, which end early; {"\, an escape; {"i":01, no number; {"i":1,} and {"i" 1, out of turn
    ∷ ask (123 ∷ []) (refusal bad_text 1)
    ∷ ask (123 ∷ 34 ∷ 105 ∷ []) (refusal bad_text 3)
    ∷ ask (123 ∷ 34 ∷ 92 ∷ []) (refusal bad_text 1)
    ∷ ask (123 ∷ 34 ∷ 105 ∷ 34 ∷ 58 ∷ 48 ∷ 49 ∷ []) (refusal bad_text 5)
    ∷ ask (123 ∷ 34 ∷ 105 ∷ 34 ∷ 58 ∷ 49 ∷ 44 ∷ 125 ∷ []) (refusal bad_text 7)
    ∷ ask (123 ∷ 34 ∷ 105 ∷ 34 ∷ 32 ∷ 49 ∷ []) (refusal bad_text 5)
    ∷ []

abbrev answers_to : ℕ → List Asked → List Outcome
answers_to room texts = map (λ x. writes small x.text room) texts

abbrev expected : List Asked → List Outcome
expected texts = map (λ x. x.comes) texts

pub small-answered : answers_to payload_most asked ++ answers_to 13 refusals ≡ expected asked ++ expected refusals
unfolding asked nested refusals all same among short long fewest number_of flip clear brief_of digits_only plain integral value_from integer_said name
    header_fine childless block_fine in_turn unlike member string_child set_fine array_fine enum_fine leaf_form children_fine name_byte name_fine row_fine accepts
    seek child_numbered child_named string_byte size count child fresh fits supported
    space sign letter word_byte leading exponent fraction numeral past string_at numeral_at word_at token_at tuple_of shortest payload_of in_base is_enum form_for misfit_for scalar_for
    colon_at parted_at name_at key_at value_at member_at run inside_of root_at tree_of writes
small-answered = refl
