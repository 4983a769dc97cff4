-- Document 01, "The dictionary (002, clause 7.2.3)": where everything stands. A dictionary is a list of bytes, and a row is the number of an entry, from 0.
--   entries d                     the entry count; rows_most: the most that there is room for
--   form, kind, nullable          of a row: its format byte, the high nibble of it, and its bit 2
--   number_in                      its sequence number
--   child_offset, child_count       its children, as the bytes say; first_child is the row of the first
--   name_length, name_offset, name  its name: as the bytes say, and without its closing 00
use Rattle.std.specs.Prelude.{ℕ, ◌+◌, ◌-◌, ◌*◌, ◌/◌, ◌%◌, List, Bool, eqb}
use Rattle.std.proofs.Math.Seq.{slice}
use Rattle.paper.specs.Limits.{dictionary_most}
use Rattle.numbers.specs.Bytes.{byte, short, long}

-- "Header of 12 bytes: version tag 0; flags, bit 0 = truncated; entry count (2); schema version (4); whole size (4)."
abbrev pub header_bytes : ℕ
header_bytes = 12

abbrev pub tag : List ℕ → ℕ
tag d = byte d 0

abbrev pub truncated : List ℕ → ℕ
truncated d = byte d 1 % 2

abbrev pub entries : List ℕ → ℕ
entries d = short d 2

abbrev pub whole_size : List ℕ → ℕ
whole_size d = long d 8

-- "Each entry has 10 bytes: format (1), sequence number (2), child offset (2), child count (2), name length with its closing 00 (1), name offset (2)."
abbrev pub row_bytes : ℕ
row_bytes = 10

abbrev pub row_at : ℕ → ℕ
row_at r = header_bytes + row_bytes * r

-- the most rows that a dictionary of the most bytes has room for
abbrev pub rows_most : ℕ
rows_most = (dictionary_most - header_bytes) / row_bytes

abbrev pub form : List ℕ → ℕ → ℕ
form d r = byte d (row_at r)

abbrev pub number_in : List ℕ → ℕ → ℕ
number_in d r = short d (row_at r + 1)

abbrev pub child_offset : List ℕ → ℕ → ℕ
child_offset d r = short d (row_at r + 3)

abbrev pub child_count : List ℕ → ℕ → ℕ
child_count d r = short d (row_at r + 5)

abbrev pub name_length : List ℕ → ℕ → ℕ
name_length d r = byte d (row_at r + 7)

abbrev pub name_offset : List ℕ → ℕ → ℕ
name_offset d r = short d (row_at r + 8)

-- the place after the entries
abbrev pub entries_end : List ℕ → ℕ
entries_end d = row_at (entries d)

-- offset 12+10k is row k
abbrev pub first_child : List ℕ → ℕ → ℕ
first_child d r = (child_offset d r - header_bytes) / row_bytes

-- "Format: high nibble 0 set, 1 array, 2 null, 3 integer, 4 enum, 5 string, 6 real, 7 boolean. Bit 2 nullable, bit 1 read-only, bit 0 deferred."
abbrev pub kind : List ℕ → ℕ → ℕ
kind d r = form d r / 16

abbrev pub nullable : List ℕ → ℕ → Bool
nullable d r = eqb (form d r / 4 % 2) 1

unfoldable pub name : List ℕ → ℕ → List ℕ
name d r = slice (name_offset d r) (name_offset d r + name_length d r - 1) d
