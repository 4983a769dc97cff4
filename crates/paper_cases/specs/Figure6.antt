-- 002's Figure 6, the dictionary of all the worked cases, and its rows as 002 prints them in Table 44.
--   figure6         the 274 bytes
--   Row, table44    a row with the columns of the table, and the table's 11 rows
--   rows_of d        the rows that the definitions read out of a dictionary's bytes
use Rattle.std.specs.Prelude.{ℕ, zero, suc, ◌+◌, ◌*◌, ◌/◌, ◌%◌, List, [], ◌∷◌, ◌++◌, Bool, true, false, eqb, Option, Some, None}
use Prim.Native.String.{String}
use Rattle.paper.specs.Checks.{choose}
use Rattle.dictionary.specs.Formats.{set_form, array_form, integer_form, enum_form, string_form, boolean_form}
use Rattle.dictionary.specs.Rows.{entries, form, kind, nullable, number_in, child_offset, child_count, first_child, name}
use Rattle.paper_cases.specs.Spelling.{ascii, hex}

-- Line by line as in the figure. "The crawl put a stray 00 into each line from the seventh, in two before the last byte; lines have 8 bytes, the last 2." So of its nine bytes
-- the tenth line (74 ..) and the fifteenth (50 02 ..) lose the eighth, the others the ninth, and the last line all that follow its two.
unfoldable pub figure6 : List ℕ
figure6 =
    hex "00 00 0B 00 00 F0 F0 F1"
    ++ hex "12 01 00 00 00 00 00 16"
    ++ hex "00 04 00 0C 7A 00 14 00"
    ++ hex "00 3E 00 01 00 13 86 00"
    ++ hex "56 01 00 00 00 00 00 03"
    ++ hex "99 00 74 02 00 00 00 00"
    ++ hex "00 16 9C 00 34 03 00 00"
    ++ hex "00 00 00 16 B2 00 00 00"
    ++ hex "00 48 00 02 00 00 00 00"
    ++ hex "74 00 00 00 00 00 00 0F"
    ++ hex "C8 00 46 01 00 5C 00 03"
    ++ hex "00 0B D7 00 50 00 00 00"
    ++ hex "00 00 00 09 E2 00 50 01"
    ++ hex "00 00 00 00 00 07 EB 00"
    ++ hex "50 02 00 00 00 00 00 07"
    ++ hex "F2 00 44 75 6D 6D 79 53"
    ++ hex "69 6D 70 6C 65 00 43 68"
    ++ hex "69 6C 64 41 72 72 61 79"
    ++ hex "50 72 6F 70 65 72 74 79"
    ++ hex "00 49 64 00 53 61 6D 70"
    ++ hex "6C 65 45 6E 61 62 6C 65"
    ++ hex "64 50 72 6F 70 65 72 74"
    ++ hex "79 00 53 61 6D 70 6C 65"
    ++ hex "49 6E 74 65 67 65 72 50"
    ++ hex "72 6F 70 65 72 74 79 00"
    ++ hex "41 6E 6F 74 68 65 72 42"
    ++ hex "6F 6F 6C 65 61 6E 00 4C"
    ++ hex "69 6E 6B 53 74 61 74 75"
    ++ hex "73 00 4C 69 6E 6B 44 6F"
    ++ hex "77 6E 00 4C 69 6E 6B 55"
    ++ hex "70 00 4E 6F 4C 69 6E 6B"
    ++ hex "00 18 43 6F 70 79 72 69"
    ++ hex "67 68 74 20 28 63 29 20"
    ++ hex "32 30 31 38 20 44 4D 54"
    ++ hex "46 00"

-- Table 44's columns in its order; its child pointer is a row or null. It has no flags, so the last two, the nullable bit and the other bits of the low nibble, are the figure's own.
-- Figure 5's schema has the same two read-only properties, but lets only LinkStatus be null.
pub record Row : Type 0 where
  pub number : ℕ
  pub format : ℕ
  pub name : List ℕ
  pub pointer : Option ℕ
  pub count : ℕ
  pub nullable : Bool
  pub flags : ℕ

abbrev pub row : ℕ → ℕ → String → Option ℕ → ℕ → Bool → ℕ → Row
row number format name pointer count nullable flags = record {
  number = number;
  format = format;
  name = ascii name;
  pointer = pointer;
  count = count;
  nullable = nullable;
  flags = flags;
}

-- "bit 1 read-only"
abbrev pub read_only : ℕ
read_only = 0b0010

-- Sequence number, format, name, child pointer, child count; nullable, other flags. Row 5's name is given as "null (anonymous array elements)".
unfoldable pub table44 : List Row
table44 =
    row 0 set_form "DummySimple" (Some 1) 4 false 0
    ∷ row 0 array_form "ChildArrayProperty" (Some 5) 1 true 0
    ∷ row 1 string_form "Id" None 0 true read_only
    ∷ row 2 boolean_form "SampleEnabledProperty" None 0 true 0
    ∷ row 3 integer_form "SampleIntegerProperty" None 0 true 0
    ∷ row 0 set_form "" (Some 6) 2 false 0
    ∷ row 0 boolean_form "AnotherBoolean" None 0 true 0
    ∷ row 1 enum_form "LinkStatus" (Some 8) 3 true read_only
    ∷ row 0 string_form "LinkDown" None 0 false 0
    ∷ row 1 string_form "LinkUp" None 0 false 0
    ∷ row 2 string_form "NoLink" None 0 false 0
    ∷ []

-- "null" is offset 0
abbrev pub pointer_of : List ℕ → ℕ → Option ℕ
pointer_of d r = choose (eqb (child_offset d r) 0) (λ _. None) (λ _. Some (first_child d r))

abbrev pub row_of : List ℕ → ℕ → Row
row_of d r = record {
  number = number_in d r;
  format = kind d r;
  name = name d r;
  pointer = pointer_of d r;
  count = child_count d r;
  nullable = nullable d r;
  flags = 8 * (form d r / 8 % 2) + form d r % 4;
}

-- k rows from r on
unfoldable pub rows_from : List ℕ → ℕ → ℕ → List Row
rows_from d zero r = []
rows_from d (suc k) r = row_of d r ∷ rows_from d k (suc r)

unfoldable pub rows_of : List ℕ → List Row
rows_of d = rows_from d (entries d) 0
