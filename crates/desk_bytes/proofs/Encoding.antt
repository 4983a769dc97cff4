-- A desk written as its bytes, one lemma for each return and each turn.
-- Assumes nothing.
use Prim.Native.Nat.{ℕ, suc, ◌+◌, ◌*◌, ◌<◌, ◌≤◌}
use mathlib.Core.Path.{◌≡◌, refl, sym, ap, ◌∙◌}
use mathlib.Core.Bool.{true, false}
use mathlib.Core.List.{List, [], ◌∷◌, ◌++◌, append-nil}
use native.Mathlib.Numerals.{add-one}
use native.Mathlib.Omega.{arith}
use lib.ListN.{length, drop, get_or, drop_of_length-le}
use lib.Seq.{drop-cons}
use borrow.Author.Tests.{eq-eqb, ne_eqb}
use Rattle.paper.specs.Limits.{desk_most}
use Rattle.numbers.specs.Bytes.{lowest}
use Rattle.numbers.specs.declared.output.Output.{Output}
use Rattle.numbers.specs.Output.{Room, Added}
use Rattle.numbers.proofs.Writing.{front}
use Rattle.numbers.proofs.Adding.{Adding, begun, onward, ended, room, room-first, given_back}
use Rattle.desk_records.specs.declared.Record.{Record}
use Rattle.desk.specs.declared.Desk.{Desk}
use Rattle.desk_records.specs.Record.{empty}
use Rattle.desk_bytes.specs.Bytes.{Field, bytes, layout, record_bytes, desk_bytes, encode_fields, encode_record, encode_records}
use Rattle.desk_bytes.specs.Coded.{Encoded}
use Rattle.desk_bytes.proofs.Codec.{records_long}

-- a record's fields, one after the other
module _ (r : Record) (o : Output) (h : Room o (encode_record r)) where
  -- before the fields fs, of which f is the first
  abbrev Before : List Field → Output → Type 0
  Before fs o' = Adding o (encode_record r) o' (encode_fields fs r)

  start : Before layout o
  unfolding encode_record
  start = begun o (encode_record r)

  module _ (f : Field) (fs : List Field) where
    cons : encode_fields (f ∷ fs) r ≡ lowest f.width (f.of r) ++ encode_fields fs r
    unfolding encode_fields
    cons = refl

    field_room : {o' : Output} → Before (f ∷ fs) o' → Room o' (lowest f.width (f.of r))
    field_room {o'} w = room-first o' (lowest f.width (f.of r)) (encode_fields fs r) (rw cons at (room h w))

    field_put : {o' o'' : Output} → Before (f ∷ fs) o' → Added o' (lowest f.width (f.of r)) o'' → Before fs o''
    field_put w v = onward (encode_fields (f ∷ fs) r) cons w v

  pub room-number : Room o (lowest 2 r.number)
  room-number = field_room _ (drop 1 layout) start

  module _ (o₁ : Output) (w₁ : Added o (lowest 2 r.number) o₁) where
    b₁ : Before (drop 1 layout) o₁
    b₁ = field_put _ (drop 1 layout) start w₁

    pub room-kind : Room o₁ (lowest 1 r.kind)
    room-kind = field_room _ (drop 2 layout) b₁

    module _ (o₂ : Output) (w₂ : Added o₁ (lowest 1 r.kind) o₂) where
      b₂ : Before (drop 2 layout) o₂
      b₂ = field_put _ (drop 2 layout) b₁ w₂

      pub room-state : Room o₂ (lowest 1 r.state)
      room-state = field_room _ (drop 3 layout) b₂

      module _ (o₃ : Output) (w₃ : Added o₂ (lowest 1 r.state) o₃) where
        b₃ : Before (drop 3 layout) o₃
        b₃ = field_put _ (drop 3 layout) b₂ w₃

        pub room-declared : Room o₃ (lowest 4 r.declared)
        room-declared = field_room _ (drop 4 layout) b₃

        module _ (o₄ : Output) (w₄ : Added o₃ (lowest 4 r.declared) o₄) where
          b₄ : Before (drop 4 layout) o₄
          b₄ = field_put _ (drop 4 layout) b₃ w₄

          pub room-received : Room o₄ (lowest 4 r.received)
          room-received = field_room _ (drop 5 layout) b₄

          module _ (o₅ : Output) (w₅ : Added o₄ (lowest 4 r.received) o₅) where
            b₅ : Before (drop 5 layout) o₅
            b₅ = field_put _ (drop 5 layout) b₄ w₅

            pub room-due : Room o₅ (lowest 4 r.due)
            room-due = field_room _ (drop 6 layout) b₅

            pub record_written : (o₆ : Output) → Added o₅ (lowest 4 r.due) o₆ → Added o (encode_record r) o₆
            unfolding encode_fields
            record_written o₆ w₆ = ended refl (field_put (bytes 4 (λ x. x.due)) (drop 6 layout) b₅ w₆)

-- the records, one after the other: those before i are written
pub record Encoding (d : Desk) (o : Output) (i : ℕ) (o' : Output) : Type 0 where
  pub within : i ≤ desk_most
  pub adding : Adding o (encode_records d.records) o' (encode_records (drop i d.records))

records_cons : (r : Record) (rs : List Record) → encode_records (r ∷ rs) ≡ encode_record r ++ encode_records rs
unfolding encode_records
records_cons r rs = refl

records_nil : encode_records [] ≡ []
unfolding encode_records
records_nil = refl

pub encode-not : (d : Desk) (o : List ℕ) → (length o ≡ desk_bytes → ⊥) → Encoded d o false o
encode-not d o z = record { good = sym (ne_eqb (length o) desk_bytes z); left = refl }

module _ (d : Desk) (o : Output) (eight : length d.records ≡ desk_most) (l : length o.buf.now ≡ desk_bytes) (z : o.pos ≡ 0) where
  whole : length (encode_records d.records) ≡ desk_bytes
  whole = records_long d.records ∙ ap (λ (n : ℕ). n * record_bytes) eight

  pub encode-start : Encoding d o 0 o
  encode-start = record { within = omega arith; adding = begun o (encode_records d.records) }

  module _ (i : ℕ) (o' : Output) (w : Encoding d o i o') where
    module _ (h : i < desk_most) where
      this : encode_records (drop i d.records) ≡ encode_record (get_or d.records i empty) ++ encode_records (drop (suc i) d.records)
      this = ap encode_records (drop-cons d.records i empty (omega (arith, eight))) ∙ records_cons (get_or d.records i empty) (drop (suc i) d.records)

      pub encode-room : Room o' (encode_record (get_or d.records i empty))
      encode-room = room-first o' (encode_record (get_or d.records i empty)) (encode_records (drop (suc i) d.records)) (rw this at (room (omega (arith, whole, l, z)) w.adding))

      pub encode-more : (o'' : Output) → Added o' (encode_record (get_or d.records i empty)) o'' → Encoding d o (i + 1) o''
      encode-more o'' v = record { within = omega arith; adding = onward (encode_records (drop i d.records)) (this ∙ rw (add-one i)) w.adding v }

    pub encode-done : desk_most ≤ i → (now : List ℕ) → now ≡ o'.buf.now → Encoded d o.buf.now true now
    encode-done h now e =
        let k : length d.records ≤ i = omega (arith, eight) in
        let m : length o.buf.now ≤ length (encode_records d.records) = omega (arith, whole, l) in
        let v = given_back (ended (ap encode_records (drop_of_length-le d.records k) ∙ records_nil) w.adding) e in
        record {
          good = sym (eq-eqb (length o.buf.now) desk_bytes l);
          left = front (omega (arith, whole, l)) (rw z at v)
              ∙ ap (λ (x : List ℕ). encode_records d.records ++ x) (drop_of_length-le o.buf.now m)
              ∙ append-nil (encode_records d.records);
        }

pub ruleset puts = (room-number, room-kind, room-state, room-declared, room-received, room-due, record_written)

pub ruleset encodes = (encode-start, encode-room, encode-more, encode-done)
