-- The calls that move a known operation: each looks at the record of its number alone, and replaces it or changes nothing.
-- Assumes nothing.
use Prim.Native.Nat.{ℕ, ◌<◌, ◌≤◌}
use mathlib.Core.Path.{◌≡◌, sym, ◌∙◌}
use mathlib.Core.Bool.{true, false, not, cond}
use mathlib.Core.List.{List}
use native.Mathlib.Omega.{arith}
use lib.ListN.{length, take}
use lib.Dec.{eqb}
use borrow.Author.Tests.{eqb-true, eqb-false, ltb-true, not-true}
use Rattle.paper.specs.Refusals.{accepted, number_zero, no_such_number, not_allowed, amount_wrong}
use Rattle.desk_records.specs.declared.Record.{Record}
use Rattle.desk.specs.declared.Desk.{Desk}
use Rattle.desk_records.specs.Moves.{Move, Moves}
use Rattle.desk.specs.Desk.{place, record_of, put}
use Rattle.desk.specs.Calls.{unless, call_number, called}
use Rattle.desk_laws.specs.View.{GoodDesk, see, bytes_of}
use Rattle.desk_laws.specs.State.{vacant}
use Rattle.paper.proofs.Tests.{split}
use Rattle.desk.proofs.Places.{known}
use Rattle.desk_records.proofs.Moving.{Next, Safe, Keeps}
use Rattle.desk.proofs.Soundness.{used-at, sound_records_lem}
use Rattle.desk.proofs.Settling.{unless-passed}
use Rattle.desk_laws.proofs.Putting.{kept, seen, seen_eq, has-known, next-good, next_here, next-others, next-fills, next-bytes}

-- the tests after 20, on the record of the number
abbrev pub number_for : ℕ → Move → Record → ℕ
number_for n m r =
    unless (not (eqb n 0)) number_zero λ _.
    unless (eqb r.number n) no_such_number λ _.
    unless (m.allowed r) not_allowed λ _.
    unless (m.fits r) amount_wrong λ _.
    accepted

pub call-number : (d : Desk) → GoodDesk d → (n : ℕ) (m : Move) → call_number d n m ≡ number_for n m (record_of n d)
unfolding call_number
call-number d g n m =
    rw g.right
    (split (eqb n 0)
    (λ t. rw t)
    (λ t. rw (t, has-known d g n (eqb-false n 0 t))))

-- what an accepted call knows
pub record Goes (d : Desk) (n : ℕ) (m : Move) : Type 0 where
  pub nonzero : n ≡ 0 → ⊥
  pub there : place n d.records < length d.records
  pub allowed : m.allowed (record_of n d) ≡ true
  pub fits : m.fits (record_of n d) ≡ true

number-goes : (d : Desk) → GoodDesk d → (n : ℕ) (m : Move) → number_for n m (record_of n d) ≡ 0 → Goes d n m
number-goes d g n m e =
    let a = unless-passed (not (eqb n 0)) number_zero _ (omega arith) e in
    let b = unless-passed (eqb (record_of n d).number n) no_such_number _ (omega arith) a.1 in
    let c = unless-passed (m.allowed (record_of n d)) not_allowed _ (omega arith) b.1 in
    let f = unless-passed (m.fits (record_of n d)) amount_wrong _ (omega arith) c.1 in
    let z = eqb-false n 0 (not-true _ a.0) in
    record { nonzero = z; there = ltb-true _ _ (known n d.records z ∙ b.0); allowed = c.0; fits = f.0 }

abbrev pub moved : Desk → ℕ → Move → Desk
moved d n m = put d (place n d.records) (m.next (record_of n d))

pub data Way (d : Desk) (n : ℕ) (m : Move) : Type 0 where
  refused : (called d n m).desk ≡ d → eqb (called d n m).number accepted ≡ false → Way d n m
  goes : (called d n m).desk ≡ moved d n m → eqb (called d n m).number accepted ≡ true → Goes d n m → Way d n m

pub way : (d : Desk) → GoodDesk d → (n : ℕ) (m : Move) → Way d n m
unfolding called
way d g n m =
    split (eqb (call_number d n m) accepted)
    (λ t. goes (rw t) t (number-goes d g n m (sym (call-number d g n m) ∙ eqb-true _ _ t)))
    (λ t. refused (rw t) t)

pub call-answer : (d : Desk) → GoodDesk d → (n : ℕ) (m : Move) → (called d n m).number ≡ number_for n m (record_of n d)
unfolding called
call-answer d g n m = call-number d g n m

module _ (n : ℕ) (m : Move) (safe : Safe m) (d : Desk) (g : GoodDesk d) where
  pub next_of : Goes d n m → Next (record_of n d) (m.next (record_of n d))
  next_of w = safe (record_of n d) (used-at d.records (sound_records_lem d g.right) n w.nonzero w.there) w.allowed w.fits

  pub call-good : GoodDesk (called d n m).desk
  call-good = elim (way d g n m) [
    | refused e t ↦ rw e g
    | goes e t w ↦ rw e (next-good d g n w.nonzero w.there (m.next (record_of n d)) (next_of w))
  ]

  pub call-fills : vacant d.records ≤ vacant (called d n m).desk.records
  call-fills = elim (way d g n m) [
    | refused e t ↦ rw e (omega arith)
    | goes e t w ↦ rw e (next-fills d g n w.nonzero w.there (m.next (record_of n d)) (next_of w))
  ]

  pub call-others : (st : List ℕ) (k : ℕ) → (k ≡ n → ⊥) → see k (kept (called d n m).desk st) ≡ see k (kept d st)
  call-others st k ne = elim (way d g n m) [
    | refused e t ↦ rw e
    | goes e t w ↦ rw e (next-others d g n w.nonzero w.there (m.next (record_of n d)) (next_of w) st k ne)
  ]

  pub call-entry : record_of n (called d n m).desk ≡ cond (eqb (called d n m).number accepted) (m.next (record_of n d)) (record_of n d)
  call-entry = elim (way d g n m) [
    | refused e t ↦ rw (e, t)
    | goes e t w ↦ rw (e, t) (next_here d g n w.nonzero w.there (m.next (record_of n d)) (next_of w))
  ]

  pub call-here : Keeps m → (st : List ℕ)
      → see n (kept (called d n m).desk st)
      ≡ cond (eqb (called d n m).number accepted) (seen (m.next (record_of n d)) (take (m.next (record_of n d)).received (bytes_of n d st))) (see n (kept d st))
  call-here less st = elim (way d g n m) [
    | refused e t ↦ rw (e, t)
    | goes e t w ↦
        rw (e, t)
        (seen_eq (next_here d g n w.nonzero w.there (m.next (record_of n d)) (next_of w))
        (next-bytes d g n w.nonzero w.there (m.next (record_of n d)) (next_of w) st (less (record_of n d))))
  ]

  -- an accepted call moves its operation as the table says
  pub call-moves : (called d n m).number ≡ accepted → Moves m (record_of n d) (record_of n (called d n m).desk)
  call-moves a = elim (way d g n m) [
    | refused e t ↦ absurd (eqb-false _ _ t a)
    | goes e t w ↦
        record { state = w.allowed; amount = w.fits; after = rw e (next_here d g n w.nonzero w.there (m.next (record_of n d)) (next_of w)) }
  ]
