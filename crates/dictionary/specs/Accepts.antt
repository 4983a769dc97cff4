-- Document 01, "The dictionary": "It is accepted exactly when ..". One definition for each clause of that sentence; `accepts` puts them together.
use Rattle.std.specs.Prelude.{ℕ, ◌+◌, ◌-◌, ◌%◌, List, Bool, true, false, not, ◌&&◌, ◌||◌, length, leb, eqb}
use Rattle.paper.specs.Limits.{dictionary_least, dictionary_most}
use Rattle.paper.specs.Checks.{choose}
use Rattle.paper.specs.Tests.{all, same}
use Rattle.numbers.specs.Bytes.{byte}
use Rattle.dictionary.specs.Formats.{set_form, array_form, integer_form, enum_form, string_form, boolean_form}
use Rattle.dictionary.specs.Rows.{header_bytes, row_bytes, tag, truncated, entries, whole_size, entries_end, kind, number_in, child_offset, child_count, first_child, name_length, name_offset, name}

-- "length within the table; tag 0; truncated bit 0; size equals the lent length; at least one entry and all entries inside; row 0 is a set"
unfoldable pub header_fine : List ℕ → Bool
header_fine d =
    leb dictionary_least (length d)
    && leb (length d) dictionary_most
    && eqb (tag d) 0
    && eqb (truncated d) 0
    && eqb (whole_size d) (length d)
    && leb 1 (entries d)
    && leb (entries_end d) (length d)
    && eqb (kind d 0) set_form

-- "offset 0 with count 0"
unfoldable pub childless : List ℕ → ℕ → Bool
childless d r = eqb (child_offset d r) 0 && eqb (child_count d r) 0

-- "either offset 0 with count 0, or offset 12+10k with k + count no more than the entry count"
unfoldable pub block_fine : List ℕ → ℕ → Bool
block_fine d r =
    childless d r
    || leb header_bytes (child_offset d r)
    && eqb ((child_offset d r - header_bytes) % row_bytes) 0
    && leb (first_child d r + child_count d r) (entries d)

-- a test of every child of the row, by the row of the first and the position
abbrev pub children : List ℕ → ℕ → (ℕ → ℕ → Bool) → Bool
children d r test = all (child_count d r) (test (first_child d r))

-- "The child at position p has sequence number p."
unfoldable pub in_turn : List ℕ → ℕ → ℕ → Bool
in_turn d first p = eqb (number_in d (first + p)) p

abbrev pub differs : List ℕ → ℕ → ℕ → ℕ → Bool
differs d first p q = not (same (name d (first + q)) (name d (first + p)))

-- "Children of a set or enum are named, no two alike.": the child at position p has a name, and none before it the same
unfoldable pub unlike : List ℕ → ℕ → ℕ → Bool
unlike d first p = not (eqb (name_length d (first + p)) 0) && all p (differs d first p)

-- both, for the child of a set or enum
unfoldable pub member : List ℕ → ℕ → ℕ → Bool
member d first p = in_turn d first p && unlike d first p

-- one of "only string children"
unfoldable pub string_child : List ℕ → ℕ → ℕ → Bool
string_child d first p = eqb (kind d (first + p)) string_form

unfoldable pub set_fine : List ℕ → ℕ → Bool
set_fine d r = block_fine d r && children d r (member d)

-- "An array has one child"
unfoldable pub array_fine : List ℕ → ℕ → Bool
array_fine d r = block_fine d r && eqb (child_count d r) 1 && children d r (in_turn d)

-- "an enum at least one and only string children"
unfoldable pub enum_fine : List ℕ → ℕ → Bool
enum_fine d r = block_fine d r && leb 1 (child_count d r) && children d r (string_child d) && children d r (member d)

-- "Integer, string and boolean rows have offset 0 and count 0."
unfoldable pub leaf_form : ℕ → Bool
leaf_form f = eqb f integer_form || eqb f string_form || eqb f boolean_form

-- by the row's format; "Other formats' children .. aren't looked at"
unfoldable pub children_fine : List ℕ → ℕ → Bool
children_fine d r =
    choose (eqb (kind d r) set_form) (λ _. set_fine d r) λ _.
    choose (eqb (kind d r) array_form) (λ _. array_fine d r) λ _.
    choose (eqb (kind d r) enum_form) (λ _. enum_fine d r) λ _.
    choose (leaf_form (kind d r)) (λ _. childless d r) λ _.
    true

-- "from 0x20 to 0x7E without 0x22 and 0x5C"
unfoldable pub name_byte : ℕ → Bool
name_byte b = leb 0x20 b && leb b 0x7E && not (eqb b 0x22) && not (eqb b 0x5C)

abbrev pub name_byte_at : List ℕ → ℕ → ℕ → Bool
name_byte_at d at i = name_byte (byte d (at + i))

-- "A name is offset 0 with length 0, or at least 2 bytes lying after the entries and inside the dictionary, ending in its only 00, the rest .."
unfoldable pub name_fine : List ℕ → ℕ → Bool
name_fine d r =
    eqb (name_offset d r) 0 && eqb (name_length d r) 0
    || leb 2 (name_length d r)
    && leb (entries_end d) (name_offset d r)
    && leb (name_offset d r + name_length d r) (length d)
    && eqb (byte d (name_offset d r + name_length d r - 1)) 0
    && all (name_length d r - 1) (name_byte_at d (name_offset d r))

unfoldable pub row_fine : List ℕ → ℕ → Bool
row_fine d r = name_fine d r && children_fine d r

-- the rows of a dictionary whose header is wrong aren't there to be looked at
unfoldable pub accepts : List ℕ → Bool
accepts d = choose (header_fine d) (λ _. all (entries d) (row_fine d)) (λ _. false)
