-- A desk read from its bytes, one lemma for each return.
-- Assumes nothing.
use Prim.Native.Nat.{ℕ, zero, suc, ◌+◌, ◌*◌, ◌-◌, ◌<◌, ◌≤◌}
use mathlib.Core.Path.{◌≡◌, refl, sym, ap, ◌∙◌}
use mathlib.Core.List.{List, [], ◌∷◌}
use native.Mathlib.Omega.{arith}
use lib.ListN.{length, drop, get_or}
use lib.Seq.{drop-drop}
use lib.Dec.{eqb}
use borrow.Author.Tests.{eq-eqb, eqb-true, eqb-false}
use Rattle.paper.proofs.Tests.{split}
use Rattle.std.specs.Prelude.{false, None, Some}
use Rattle.std.specs.Fn.{Called}
use Rattle.std.specs.Array.{IsFromFnResultFrom}
use denote.Param.Members.{Mut}
use Rattle.paper.specs.Limits.{desk_most}
use Rattle.numbers.specs.Bytes.{little}
use Rattle.numbers.specs.Met.{Summed}
use Rattle.numbers.proofs.Places.{slice-take}
use Rattle.desk_records.specs.declared.Record.{Record}
use Rattle.desk_records.specs.Record.{empty}
use Rattle.desk_bytes.specs.Bytes.{Field, from_numbers, record_bytes, desk_bytes, decode_fields, decode_record, decode_records, decode}
use Rattle.desk_bytes.specs.Coded.{Spells}
use Rattle.desk_bytes.proofs.Codec.{decode-none}

pub field-done : (s : List ℕ) (at width r : ℕ) → Summed s at (at + width) false r → Spells s at width r
field-done s at width r h =
    let e : at + width - at ≡ width = omega arith in
    record { same = h.same ∙ ap little (slice-take s at width); small = rw (sym e) h.small }

-- one field is read, and the next begins behind it
step : (s : List ℕ) (f : Field) (fs : List Field) (at next n : ℕ) → Spells s at f.width n → next ≡ at + f.width
    → decode_fields (f ∷ fs) (drop at s) ≡ n ∷ decode_fields fs (drop next s)
unfolding decode_fields
step s f fs at next n h e = rw (e, ← h.same, drop-drop f.width at s)

fields-none : (bs : List ℕ) → decode_fields [] bs ≡ []
unfolding decode_fields
fields-none bs = refl

pub record_done : (s : List ℕ) (at a b c d e f : ℕ)
    → Spells s at 2 a → Spells s (at + 2) 1 b → Spells s (at + 3) 1 c → Spells s (at + 4) 4 d → Spells s (at + 8) 4 e → Spells s (at + 12) 4 f
    → ◌≡◌ {A = Record} (record { number = a; kind = b; state = c; declared = d; received = e; due = f }) (decode_record (drop at s))
unfolding decode_record
record_done s at a b c d e f p q r t u v =
    ap from_numbers
    (sym (step s _ _ at (at + 2) a p refl
    ∙ ap (λ l. a ∷ l) (step s _ _ (at + 2) (at + 3) b q (omega arith)
    ∙ ap (λ l. b ∷ l) (step s _ _ (at + 3) (at + 4) c r (omega arith)
    ∙ ap (λ l. c ∷ l) (step s _ _ (at + 4) (at + 8) d t (omega arith)
    ∙ ap (λ l. d ∷ l) (step s _ _ (at + 8) (at + 12) e u (omega arith)
    ∙ ap (λ l. e ∷ l) (step s _ _ (at + 12) (at + 12 + 4) f v refl
    ∙ ap (λ l. f ∷ l) (fields-none (drop (at + 12 + 4) s)))))))))

-- records that are the bytes' one by one are all of them
records_so : (k : ℕ) (s : List ℕ) (at : ℕ) (rs : List Record) → length rs ≡ k → ((i : ℕ) → i < k → get_or rs i empty ≡ decode_record (drop (at + record_bytes * i) s)) → rs ≡ decode_records k (drop at s)
unfolding decode_records
records_so zero s at [] l h = refl
records_so zero s at (r ∷ rs) l h = absurd (omega arith)
records_so (suc k) s at [] l h = absurd (omega arith)
records_so (suc k) s at (r ∷ rs) l h =
    let a : r ≡ decode_record (drop at s) = h 0 (omega arith) ∙ ap (λ p. decode_record (drop p s)) (omega arith) in
    let b = records_so k s (at + record_bytes) rs (omega arith) (λ i m. h (suc i) (omega arith) ∙ ap (λ p. decode_record (drop p s)) (omega arith)) in
    rw (a, b) (ap (λ x. decode_record (drop at s) ∷ decode_records k x) (sym (drop-drop record_bytes at s)))

-- an array made of the answers to 0, 1, .. of a closure that stays as it is
pub made_so : {F B : Type 0} (g : Mut F (ℕ × Unit {0}) B) (f : F) (ys : List B) (h : ℕ → B) → ((i : ℕ) (y : B) (q : F) → Called g f (i, tt) y q → (q ≡ f) × (y ≡ h i))
    → (n i : ℕ) → IsFromFnResultFrom g f ys i n → (k : ℕ) (d : B) → i ≤ k → k < i + n → get_or ys k d ≡ h k
made_so g f ys h c zero i x k d a b = absurd (omega arith)
made_so g f ys h c (suc n) i x k d a b =
    let e = c i x.1 x.0 x.3 in
    split (eqb k i)
    (λ t. rw (eqb-true k i t) (x.2.1 d ∙ e.1))
    (λ t. let z = eqb-false k i t in made_so g f ys h c n (i + 1) (rw e.0 at x.4) k d (omega arith) (omega arith))

module _ (s : List ℕ) where
  pub decode-not : (length s ≡ desk_bytes → ⊥) → None ≡ decode s
  decode-not z = sym (decode-none s z)

  pub decode-done : length s ≡ desk_bytes → (rs : List Record) → length rs ≡ desk_most → ((i : ℕ) → i < desk_most → get_or rs i empty ≡ decode_record (drop (record_bytes * i) s))
      → Some (record { records = rs }) ≡ decode s
  unfolding decode
  decode-done l rs e h = rw (eq-eqb (length s) desk_bytes l) (ap (λ (x : List Record). Some (record { records = x })) (records_so desk_most s 0 rs e (λ i m. h i m ∙ ap (λ p. decode_record (drop p s)) (omega arith))))

pub ruleset decodes = (field-done, record_done)
