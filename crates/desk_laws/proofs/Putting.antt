-- What a desk shows of each number after one record is replaced, the store as it was.
-- Assumes nothing.
use Prim.Native.Nat.{ℕ, ◌*◌, ◌<◌, ◌≤◌}
use mathlib.Core.Path.{◌≡◌, refl, sym, ap, ◌∙◌}
use mathlib.Core.List.{List, []}
use native.Mathlib.Omega.{arith}
use lib.ListN.{length, get_or, set, length-set, take, drop}
use lib.Seq.{take-take}
use lib.Dec.{eqb, ltb}
use borrow.Author.Tests.{eqb-true, eqb-false}
use Rattle.paper.specs.Limits.{declared_most}
use Rattle.desk_records.specs.declared.Record.{Record}
use Rattle.desk.specs.declared.Desk.{Desk}
use Rattle.desk_records.specs.Record.{empty}
use Rattle.desk.specs.Desk.{place, has, record_of, put}
use Rattle.desk_laws.specs.View.{GoodDesk, Kept, Seen, see, bytes_of}
use Rattle.desk_laws.specs.State.{vacant}
use Rattle.paper.proofs.Tests.{split}
use Rattle.desk_records.proofs.Moving.{Next, on, off, used_sound}
use Rattle.desk.proofs.Places.{known, place-number, at-absent, place_other, at_other, place_same, at_same}
use Rattle.desk.proofs.Soundness.{sound-same, sound_other, gone, blank, empty-sound, sound_records_lem, sound-put}
use Rattle.desk_laws.proofs.Vacancy.{vacant-same, vacant_gone}

abbrev pub kept : Desk → List ℕ → Kept
kept d st = record { desk = d; store = st }

abbrev pub seen : Record → List ℕ → Seen
seen r b = record { entry = r; bytes = b }

pub seen_eq : {a b : Record} {x y : List ℕ} → a ≡ b → x ≡ y → seen a x ≡ seen b y
seen_eq p q = rw (p, q)

-- 24 and 22: a number is on the desk where the record of it has it
pub has-known : (d : Desk) → GoodDesk d → (n : ℕ) → (n ≡ 0 → ⊥) → has n d ≡ eqb (record_of n d).number n
has-known d g n z = ap (ltb (place n d.records)) (sym g.eight) ∙ known n d.records z

-- the number 0 has nothing
pub see-zero : (d : Desk) → GoodDesk d → (st : List ℕ) → see 0 (kept d st) ≡ seen empty []
see-zero d g st =
    let e = blank d.records (sound_records_lem d g.right) in
    seen_eq e (ap (λ (r : Record). take r.received (drop (declared_most * place 0 d.records) st)) e)

module _ (d : Desk) (p : ℕ) (r : Record) (m : ℕ) (old : (get_or d.records p empty).number ≡ m → ⊥) (new : r.number ≡ m → ⊥) where
  pub put_other : (st : List ℕ) → see m (kept (put d p r) st) ≡ see m (kept d st)
  put_other st = seen_eq (at_other m d.records p r old new) (rw (at_other m d.records p r old new, place_other m d.records p r old new))

-- a record of the number n in its place: one with the same number, or the empty one
module _ (d : Desk) (g : GoodDesk d) (n : ℕ) (z : n ≡ 0 → ⊥) (h : place n d.records < length d.records) (r : Record) (x : Next (record_of n d) r) where
  next-number : (m : ℕ) → (m ≡ 0 → ⊥) → (m ≡ n → ⊥) → r.number ≡ m → ⊥
  next-number m zm ne e = elim x [
    | on s u ↦ ne (sym e ∙ s ∙ place-number n d.records h)
    | off s ↦ zm (sym e ∙ ap (λ (y : Record). y.number) s)
  ]

  pub next-good : GoodDesk (put d (place n d.records) r)
  next-good = record {
    eight = length-set d.records (place n d.records) r ∙ g.eight;
    right = sound-put d (place n d.records) r g.right (elim x [
      | on s u ↦ sound-same d.records (place n d.records) r (sound_records_lem d g.right) (used_sound r u (λ e. z (sym (s ∙ place-number n d.records h) ∙ e))) s
      | off s ↦ rw s (sound_other d.records (place n d.records) empty (sound_records_lem d g.right) empty-sound (λ y. absurd (y refl)))
    ]);
  }

  pub next_here : record_of n (put d (place n d.records) r) ≡ r
  next_here = elim x [
    | on s u ↦ at_same n d.records r h (s ∙ place-number n d.records h)
    | off s ↦ rw s (at-absent n (set d.records (place n d.records) empty) (gone n d.records empty (sound_records_lem d g.right) z (λ e. z (sym e))))
  ]

  pub next-others : (st : List ℕ) (m : ℕ) → (m ≡ n → ⊥) → see m (kept (put d (place n d.records) r) st) ≡ see m (kept d st)
  next-others st m ne =
      split (eqb m 0)
      (λ t. rw (eqb-true m 0 t) (see-zero (put d (place n d.records) r) next-good st ∙ sym (see-zero d g st)))
      (λ t. put_other d (place n d.records) r m (λ e. ne (sym e ∙ place-number n d.records h)) (next-number m (eqb-false m 0 t) ne) st)

  pub next-fills : vacant d.records ≤ vacant (set d.records (place n d.records) r)
  next-fills = elim x [
    | on s u ↦ let e = vacant-same d.records (place n d.records) r s in omega arith
    | off s ↦ rw s (vacant_gone d.records (place n d.records))
  ]

  -- its bytes, where the new record has no more of them
  pub next-bytes : (st : List ℕ) → r.received ≤ (record_of n d).received
      → bytes_of n (put d (place n d.records) r) st ≡ take r.received (bytes_of n d st)
  next-bytes st l =
      ap (λ (y : Record). take y.received (drop (declared_most * place n (set d.records (place n d.records) r)) st)) next_here
      ∙ elim x [
        | on s u ↦
            ap (λ (p : ℕ). take r.received (drop (declared_most * p) st)) (place_same n d.records (place n d.records) r s)
            ∙ sym (take-take r.received (record_of n d).received (drop (declared_most * place n d.records) st) l)
        | off s ↦ rw s
      ]
