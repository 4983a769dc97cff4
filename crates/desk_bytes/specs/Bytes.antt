-- A desk as bytes, for whoever keeps or carries one: eight records, each as the bytes of its fields, one field after the other.
--   layout          the fields of a record, with their widths: 16 bytes a record, 128 in all
--   encode d        the 128 bytes of a desk
--   decode bs       the desk that they spell; bytes of another length spell none
--   Narrow r        each number of a record fits its field
-- "Multi-byte numbers are little-endian."
use Rattle.std.specs.Prelude.{ℕ, zero, suc, ◌+◌, ◌*◌, ◌^◌, ◌<◌, List, [], ◌∷◌, ◌++◌, map, length, take, drop, get_or, eqb, Option, None, Some}
use Rattle.paper.specs.Checks.{choose}
use Rattle.paper.specs.Limits.{desk_most}
use Rattle.numbers.specs.Bytes.{little, lowest}
use Rattle.desk_records.specs.declared.Record.{Record}
use Rattle.desk.specs.declared.Desk.{Desk}

pub record Field : Type 0 where
  pub width : ℕ
  pub of : Record → ℕ

abbrev pub bytes : ℕ → (Record → ℕ) → Field
bytes width of = record { width = width; of = of }

-- number 2 bytes, type 1, state 1, declared 4, received 4, due 4
abbrev pub layout : List Field
layout =
    bytes 2 (λ r. r.number)
    ∷ bytes 1 (λ r. r.kind)
    ∷ bytes 1 (λ r. r.state)
    ∷ bytes 4 (λ r. r.declared)
    ∷ bytes 4 (λ r. r.received)
    ∷ bytes 4 (λ r. r.due)
    ∷ []

-- the record of such numbers, in the order of the layout
abbrev pub from_numbers : List ℕ → Record
from_numbers ns = record {
  number = get_or ns 0 0;
  kind = get_or ns 1 0;
  state = get_or ns 2 0;
  declared = get_or ns 3 0;
  received = get_or ns 4 0;
  due = get_or ns 5 0;
}

abbrev pub record_bytes : ℕ
record_bytes = 16

abbrev pub desk_bytes : ℕ
desk_bytes = desk_most * record_bytes

abbrev pub widths : List Field → ℕ
widths [] = 0
widths (f ∷ fs) = f.width + widths fs

-- what fields hold of a record
abbrev pub numbers_in : List Field → Record → List ℕ
numbers_in fs r = map (λ f. f.of r) fs

unfoldable pub encode_fields : List Field → Record → List ℕ
encode_fields [] r = []
encode_fields (f ∷ fs) r = lowest f.width (f.of r) ++ encode_fields fs r

unfoldable pub decode_fields : List Field → List ℕ → List ℕ
decode_fields [] bs = []
decode_fields (f ∷ fs) bs = little (take f.width bs) ∷ decode_fields fs (drop f.width bs)

unfoldable pub encode_record : Record → List ℕ
encode_record r = encode_fields layout r

unfoldable pub decode_record : List ℕ → Record
decode_record bs = from_numbers (decode_fields layout bs)

unfoldable pub encode_records : List Record → List ℕ
encode_records [] = []
encode_records (r ∷ rs) = encode_record r ++ encode_records rs

unfoldable pub decode_records : ℕ → List ℕ → List Record
decode_records zero bs = []
decode_records (suc count) bs = decode_record bs ∷ decode_records count (drop record_bytes bs)

abbrev pub encode : Desk → List ℕ
encode d = encode_records d.records

unfoldable pub decode : List ℕ → Option Desk
decode bs =
    choose (eqb (length bs) desk_bytes)
    (λ _. Some (record { records = decode_records desk_most bs }))
    (λ _. None)

-- each number fits its field
abbrev pub Fit : List Field → Record → Type 0
Fit [] r = Unit {0}
Fit (f ∷ fs) r = (f.of r < 256 ^ f.width) × Fit fs r

abbrev pub Narrow : Record → Type 0
Narrow r = Fit layout r

abbrev pub AllNarrow : List Record → Type 0
AllNarrow [] = Unit {0}
AllNarrow (r ∷ rs) = Narrow r × AllNarrow rs
