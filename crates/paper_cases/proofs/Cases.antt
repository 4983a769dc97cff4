-- Document 01's starred cases: the definitions answer each as the paper says.
-- Assumes nothing.
use mathlib.Core.Path.{◌≡◌, refl}
use mathlib.Core.List.{◌++◌, map}
use Rattle.paper.specs.Tests.{all, same, among}
use Rattle.numbers.specs.Bytes.{little, short, long}
use Rattle.numbers.specs.Number.{number_at, fewest, number_of}
use Rattle.numbers.specs.Integer.{flip, integer_of, sign_repeated, is_integer, clear, brief_of}
use Rattle.numbers.specs.Decimal.{digits, decimal, decimal_of, digits_only, plain, integral, value_from, integer_said}
use Rattle.dictionary.specs.Rows.{name}
use Rattle.dictionary.specs.Accepts as Accepts
use Rattle.dictionary.specs.Accepts.{childless, block_fine, in_turn, unlike, member, string_child, set_fine, array_fine, enum_fine, leaf_form, children_fine, name_byte, name_fine, row_fine, accepts}
use Rattle.dictionary.specs.Children.{seek, child_numbered, child_named}
use Rattle.payload.specs.Strings.{string_byte, well_spelt}
use Rattle.payload.specs.Header as Header
use Rattle.payload.specs.Tree.{size, count}
use Rattle.payload.specs.Fits as Fits
use Rattle.payload.specs.Fits.{known, child, fits}
use Rattle.payload.specs.Text.{label, text_of}
use Rattle.payload.specs.Values.{integer_value, boolean_value, option_value, string_value, scalar_value}
use Rattle.payload.specs.Reading as Reading
use Rattle.payload.specs.Reading.{supported, asked, tuple_at, reads}
use Rattle.text.specs.Tokens.{space, sign, letter, word_byte}
use Rattle.text.specs.Numerals.{leading, exponent, fraction, numeral}
use Rattle.text.specs.Scanning.{past, string_at, numeral_at, word_at, token_at}
use Rattle.text.specs.Shortest.{tuple_of, shortest, payload_of}
use Rattle.text.specs.Values.{in_base, is_enum, form_for, misfit_for, scalar_for}
use Rattle.text.specs.Writing as Writing
use Rattle.text.specs.Writing.{name_at, colon_at, parted_at, key_at, value_at, member_at, writes}
use Rattle.desk_records.specs.Record.{suits, else_zero, declared_sound, state_sound, received_sound, due_sound, sound_record}
use Rattle.desk_records.specs.Moves.{opening, killing, closing}
use Rattle.desk.specs.Desk as Desk
use Rattle.desk.specs.Desk.{place, sound_records, sound}
use Rattle.desk.specs.Calls.{open_number, opened, call_number, called}
use Rattle.paper_cases.specs.Spelling.{ascii, digit, hex}
use Rattle.paper_cases.specs.Figure6.{figure6}
use Rattle.paper_cases.specs.Cases.{numbers_of, desk_after, answer, starred}
use Rattle.paper_cases.specs.Further.{values, integers, nested, refusals}

-- "The starred cases are one table under one claim about the definitions."
pub worked : map (λ x. answer x.question) (starred ++ values ++ integers ++ refusals) ≡ map (λ x. x.expected) (starred ++ values ++ integers ++ refusals)
unfolding ascii digit hex figure6 numbers_of desk_after answer starred values integers nested refusals all same
    little short long number_at fewest number_of flip integer_of sign_repeated is_integer clear brief_of digits decimal decimal_of digits_only plain integral value_from integer_said
    name Accepts.header_fine childless block_fine in_turn unlike member string_child set_fine array_fine enum_fine leaf_form children_fine name_byte name_fine row_fine accepts
    seek child_numbered child_named string_byte well_spelt size count among known child Fits.fresh fits label text_of integer_value boolean_value option_value string_value scalar_value
    supported Header.header_agrees asked tuple_at Reading.run Reading.inside_of Reading.root_at Reading.tree_of reads
    space sign letter word_byte leading exponent fraction numeral past string_at numeral_at word_at token_at tuple_of shortest payload_of in_base is_enum form_for misfit_for scalar_for
    name_at colon_at parted_at key_at value_at member_at Writing.run Writing.inside_of Writing.root_at Writing.tree_of writes
    suits else_zero declared_sound state_sound received_sound due_sound sound_record opening killing closing place Desk.alone sound_records sound
    open_number opened call_number called
worked = refl
