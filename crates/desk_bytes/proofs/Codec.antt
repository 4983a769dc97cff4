-- Decoding what was encoded gives it back, and encoding what was decoded gives the bytes back: said once for any fields, and so of records and desks.
-- Assumes nothing.
use Prim.Native.Nat.{ℕ, zero, suc, ◌+◌, ◌*◌, ◌^◌, ◌<◌, ◌≤◌}
use mathlib.Core.Path.{◌≡◌, refl, sym, ap, ◌∙◌}
use mathlib.Core.List.{List, [], ◌∷◌, ◌++◌, append_assoc}
use Rattle.std.specs.Prelude.{Option, None, Some}
use native.Mathlib.Omega.{arith}
use lib.ListN.{length, take, drop, length-append, length-drop, take-append-drop}
use lib.Seq.{take-add, length-take-le}
use lib.Dec.{eqb}
use borrow.Author.Tests.{eq-eqb, ne_eqb, eqb-true}
use Rattle.paper.specs.Limits.{desk_most}
use Rattle.numbers.specs.Bytes.{Bytes, little, lowest}
use Rattle.numbers.proofs.Little.{little-lowest, lowest-little}
use Rattle.numbers.proofs.Putting.{lowest-long}
use Rattle.numbers.proofs.Places.{bytes_drop, bytes_take}
use Rattle.paper.proofs.Tests.{split}
use Rattle.desk_records.specs.declared.Record.{Record}
use Rattle.desk.specs.declared.Desk.{Desk}
use Rattle.desk_bytes.specs.Bytes.{Field, layout, from_numbers, record_bytes, desk_bytes, widths, numbers_in, encode_fields, decode_fields, encode_record, decode_record, encode_records, decode_records, encode, decode, Fit, Narrow, AllNarrow}

-- a part of known length, and what is behind it
take_part : (w : ℕ) (a b : List ℕ) → length a ≡ w → take w (a ++ b) ≡ a
take_part w [] b e = rw (← e)
take_part w (x ∷ a) b e = rw (← e) (ap (λ (l : List ℕ). x ∷ l) (take_part (length a) a b refl))

drop-part : (w : ℕ) (a b : List ℕ) → length a ≡ w → drop w (a ++ b) ≡ b
drop-part w [] b e = rw (← e)
drop-part w (x ∷ a) b e = rw (← e) (drop-part (length a) a b refl)

-- so many bytes spell a number that fits them
little-small : (v : List ℕ) → Bytes v → little v < 256 ^ length v
unfolding little
little-small [] b = omega arith
little-small (x ∷ v) b =
    let h = little-small v b.1 in
    let g : x + 256 * little v < 256 ^ suc (length v) = omega (arith, b.0, h) in
    g

small_as : (v : List ℕ) (w : ℕ) → Bytes v → length v ≡ w → little v < 256 ^ w
small_as v w b e = rw (← e) (little-small v b)

cons_head : {a b : ℕ} {as' bs : List ℕ} → ◌≡◌ {A = List ℕ} (a ∷ as') (b ∷ bs) → a ≡ b
cons_head h = cc

cons_tail : {a b : ℕ} {as' bs : List ℕ} → ◌≡◌ {A = List ℕ} (a ∷ as') (b ∷ bs) → as' ≡ bs
cons_tail h = cc

-- any fields
pub fields-long : (fs : List Field) (r : Record) → length (encode_fields fs r) ≡ widths fs
unfolding encode_fields
fields-long [] r = refl
fields-long (f ∷ fs) r =
    let e = fields-long fs r in
    let l = lowest-long f.width (f.of r) in
    length-append (lowest f.width (f.of r)) (encode_fields fs r) ∙ omega arith

fields_back : (fs : List Field) (r : Record) (bs : List ℕ) → Fit fs r → decode_fields fs (encode_fields fs r ++ bs) ≡ numbers_in fs r
unfolding decode_fields encode_fields
fields_back [] r bs h = refl
fields_back (f ∷ fs) r bs h =
    let l = lowest-long f.width (f.of r) in
    rw (
      append_assoc (lowest f.width (f.of r)) (encode_fields fs r) bs,
      take_part f.width (lowest f.width (f.of r)) (encode_fields fs r ++ bs) l,
      drop-part f.width (lowest f.width (f.of r)) (encode_fields fs r ++ bs) l,
      little-lowest f.width (f.of r) h.0,
      fields_back fs r bs h.1,
    )

-- what is read of bytes fits its fields, and writes them again
module _ (r : Record) where
  part-long : (w rest : ℕ) (bs : List ℕ) → w + rest ≤ length bs → length (take w bs) ≡ w
  part-long w rest bs h = length-take-le w bs (omega arith)

  fields_fit : (fs : List Field) (bs : List ℕ) → Bytes bs → widths fs ≤ length bs → numbers_in fs r ≡ decode_fields fs bs → Fit fs r
  unfolding decode_fields
  fields_fit [] bs b h e = tt
  fields_fit (f ∷ fs) bs b h e = (
    rw (cons_head e) (small_as (take f.width bs) f.width (bytes_take bs f.width b) (part-long f.width (widths fs) bs h)),
    fields_fit fs (drop f.width bs) (bytes_drop bs f.width b) (rw (length-drop f.width bs) (omega arith)) (cons_tail e),
  )

  fields_forth : (fs : List Field) (bs : List ℕ) → Bytes bs → widths fs ≤ length bs → numbers_in fs r ≡ decode_fields fs bs → encode_fields fs r ≡ take (widths fs) bs
  unfolding decode_fields encode_fields
  fields_forth [] bs b h e = refl
  fields_forth (f ∷ fs) bs b h e =
      rw (
        cons_head e,
        lowest-little f.width (take f.width bs) (part-long f.width (widths fs) bs h) (bytes_take bs f.width b),
        fields_forth fs (drop f.width bs) (bytes_drop bs f.width b) (rw (length-drop f.width bs) (omega arith)) (cons_tail e),
      )
      (sym (take-add f.width (widths fs) bs))

-- records
record_back : (r : Record) (bs : List ℕ) → Narrow r → decode_record (encode_record r ++ bs) ≡ r
unfolding decode_record encode_record
record_back r bs h = ap from_numbers (fields_back layout r bs h)

record_long : (r : Record) → length (encode_record r) ≡ record_bytes
unfolding encode_record
record_long r = fields-long layout r

record_past : (r : Record) (bs : List ℕ) → drop record_bytes (encode_record r ++ bs) ≡ bs
record_past r bs = drop-part record_bytes (encode_record r) bs (record_long r)

-- a record made of such numbers has them
as_read : (bs : List ℕ) → numbers_in layout (decode_record bs) ≡ decode_fields layout bs
unfolding decode_record decode_fields
as_read bs = refl

record_narrow : (bs : List ℕ) → Bytes bs → record_bytes ≤ length bs → Narrow (decode_record bs)
record_narrow bs b h = fields_fit (decode_record bs) layout bs b h (as_read bs)

record_forth : (bs : List ℕ) → Bytes bs → record_bytes ≤ length bs → encode_record (decode_record bs) ≡ take record_bytes bs
unfolding encode_record
record_forth bs b h = fields_forth (decode_record bs) layout bs b h (as_read bs)

records_back : (rs : List Record) → AllNarrow rs → decode_records (length rs) (encode_records rs) ≡ rs
unfolding decode_records encode_records
records_back [] h = refl
records_back (r ∷ rs) h = rw (record_back r (encode_records rs) h.0, record_past r (encode_records rs), records_back rs h.1)

pub records_long : (rs : List Record) → length (encode_records rs) ≡ length rs * record_bytes
unfolding encode_records
records_long [] = refl
records_long (r ∷ rs) =
    let e = records_long rs in
    let f = record_long r in
    length-append (encode_record r) (encode_records rs) ∙ omega arith

pub decode-encode : (d : Desk) → length d.records ≡ desk_most → AllNarrow d.records → decode (encode d) ≡ Some d
unfolding decode
decode-encode d l h =
    let e : length (encode_records d.records) ≡ desk_bytes = records_long d.records ∙ ap (λ (n : ℕ). n * record_bytes) l in
    rw (eq-eqb _ _ e)
    (ap (λ (rs : List Record). Some (record { records = rs })) (ap (λ (n : ℕ). decode_records n (encode_records d.records)) (sym l) ∙ records_back d.records h))

pub records_narrow : (count : ℕ) (bs : List ℕ) → Bytes bs → length bs ≡ count * record_bytes → AllNarrow (decode_records count bs)
unfolding decode_records
records_narrow zero bs b h = tt
records_narrow (suc count) bs b h =
    (record_narrow bs b (omega arith), records_narrow count (drop record_bytes bs) (bytes_drop bs record_bytes b) (length-drop record_bytes bs ∙ omega arith))

pub records_counted : (count : ℕ) (bs : List ℕ) → length (decode_records count bs) ≡ count
unfolding decode_records
records_counted zero bs = refl
records_counted (suc count) bs = ap suc (records_counted count (drop record_bytes bs))

records_forth : (count : ℕ) (bs : List ℕ) → Bytes bs → length bs ≡ count * record_bytes → encode_records (decode_records count bs) ≡ bs
unfolding encode_records decode_records
records_forth zero [] b h = refl
records_forth zero (x ∷ bs) b h = absurd (omega arith)
records_forth (suc count) bs b h =
    rw (record_forth bs b (omega arith), records_forth count (drop record_bytes bs) (bytes_drop bs record_bytes b) (length-drop record_bytes bs ∙ omega arith))
    (take-append-drop record_bytes bs)

-- what bytes that spell a desk are, and which spell none
pub decode-some : (bs : List ℕ) (d : Desk) → decode bs ≡ Some d → (length bs ≡ desk_bytes) × (◌≡◌ {A = Desk} (record { records = decode_records desk_most bs }) d)
unfolding decode
decode-some bs d h =
    split (eqb (length bs) (desk_bytes))
    (λ t.
    let e : ◌≡◌ {A = Option Desk} (Some (record { records = decode_records desk_most bs })) (Some d) = rw t at h in
    let f : ◌≡◌ {A = Desk} (record { records = decode_records desk_most bs }) d = cc in
    (eqb-true _ _ t, f))
    (λ t.
    let e : ◌≡◌ {A = Option Desk} None (Some d) = rw t at h in
    let z : ◌≡◌ {A = ℕ} 0 1 = cc in
    absurd (omega arith))

pub decode-none : (bs : List ℕ) → (length bs ≡ desk_bytes → ⊥) → decode bs ≡ None
unfolding decode
decode-none bs z = rw (ne_eqb (length bs) (desk_bytes) z)

pub encode-decode : (bs : List ℕ) (d : Desk) → Bytes bs → decode bs ≡ Some d → encode d ≡ bs
encode-decode bs d b h =
    let e = decode-some bs d h in
    ap (λ (d : Desk). encode d) (sym e.1) ∙ records_forth desk_most bs b e.0
