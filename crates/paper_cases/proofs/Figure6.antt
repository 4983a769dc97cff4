-- 002's Figure 6 is a dictionary that document 01 accepts, and its rows are those of 002's Table 44.
-- Assumes nothing.
use mathlib.Core.Path.{◌≡◌, refl}
use mathlib.Core.Bool.{true}
use Rattle.paper.specs.Tests.{all, same}
use Rattle.numbers.specs.Bytes.{short, long}
use Rattle.dictionary.specs.Rows.{name}
use Rattle.dictionary.specs.Accepts.{header_fine, childless, block_fine, in_turn, unlike, member, string_child, set_fine, array_fine, enum_fine, leaf_form, children_fine, name_byte, name_fine, row_fine, accepts}
use Rattle.paper_cases.specs.Spelling.{ascii, digit, hex}
use Rattle.paper_cases.specs.Figure6.{figure6, table44, rows_from, rows_of}

pub figure6-accepted : accepts figure6 ≡ true
unfolding digit hex figure6 all same short long name
    header_fine childless block_fine in_turn unlike member string_child set_fine array_fine enum_fine leaf_form children_fine name_byte name_fine row_fine accepts
figure6-accepted = refl

-- "Table 44 there settles the rows."
pub figure6-rows : rows_of figure6 ≡ table44
unfolding digit hex ascii figure6 table44 short name rows_from rows_of
figure6-rows = refl
