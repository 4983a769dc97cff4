-- Open looks at the record of its number alone where a place is empty, and puts in a new record or changes nothing.
-- Assumes nothing.
use Prim.Native.Nat.{ℕ, ◌+◌, ◌*◌, ◌<◌, ◌≤◌}
use mathlib.Core.Path.{◌≡◌, sym, ap, ◌∙◌}
use mathlib.Core.Bool.{true, false, not, cond}
use mathlib.Core.List.{List, []}
use native.Mathlib.Omega.{arith}
use lib.ListN.{length, length-set, take, drop}
use lib.Dec.{eqb, ltb}
use borrow.Author.Tests.{eqb-true, eqb-false, lt-ltb, ltb-true, ltb-false, not-true}
use Rattle.paper.specs.Limits.{desk_most, declared_most}
use Rattle.paper.specs.Refusals.{accepted, not_sound, number_zero, in_use, all_taken, open_wrong}
use Rattle.desk_records.specs.declared.Record.{Record}
use Rattle.desk.specs.declared.Desk.{Desk}
use Rattle.desk_records.specs.Record.{suits}
use Rattle.desk_records.specs.Moves.{opening}
use Rattle.desk.specs.Desk.{place, sound, has, record_of, put}
use Rattle.desk.specs.Calls.{unless, open_number, opened}
use Rattle.desk_laws.specs.View.{GoodDesk, see}
use Rattle.desk_laws.specs.State.{vacant}
use Rattle.paper.proofs.Tests.{split}
use Rattle.desk.proofs.Places.{place-number, at_new}
use Rattle.desk.proofs.Soundness.{sound_other, sound_records_lem, sound-put}
use Rattle.desk.proofs.Settling.{unless-passed}
use Rattle.desk_records.proofs.Moving.{used_sound, opening-used, opening-number, opening_received}
use Rattle.desk_laws.proofs.Vacancy.{vacant-place, vacant-one}
use Rattle.desk_laws.proofs.Putting.{kept, seen, seen_eq, has-known, see-zero, put_other}

module _ (n kind declared : ℕ) where
  -- the tests after 20, on the record of the number, where a place is empty
  abbrev pub number_for : Record → ℕ
  number_for r =
      unless (not (eqb n 0)) number_zero λ _.
      unless (not (eqb r.number n)) in_use λ _.
      unless (suits kind declared) open_wrong λ _.
      accepted

  pub open-number : (d : Desk) → GoodDesk d → 1 ≤ vacant d.records → open_number d n kind declared ≡ number_for (record_of n d)
  unfolding open_number
  open-number d g room =
      let h = vacant-place d.records room in
      let e = g.eight in
      let y : ltb (place 0 d.records) desk_most ≡ true = lt-ltb (place 0 d.records) desk_most (omega arith) in
      rw g.right
      (split (eqb n 0)
      (λ t. rw t)
      (λ t. rw (t, has-known d g n (eqb-false n 0 t), y)))

  pub record Goes (d : Desk) : Type 0 where
    pub nonzero : n ≡ 0 → ⊥
    pub absent : length d.records ≤ place n d.records
    pub suited : suits kind declared ≡ true
    pub room : place 0 d.records < length d.records

  open-goes : (d : Desk) → GoodDesk d → open_number d n kind declared ≡ 0 → Goes d
  unfolding open_number
  open-goes d g e =
      let s = unless-passed (sound d) not_sound _ (omega arith) e in
      let a = unless-passed (not (eqb n 0)) number_zero _ (omega arith) s.1 in
      let b = unless-passed (not (has n d)) in_use _ (omega arith) a.1 in
      let c = unless-passed (suits kind declared) open_wrong _ (omega arith) b.1 in
      let f = unless-passed (has 0 d) all_taken _ (omega arith) c.1 in
      let l = g.eight in
      let p = ltb-false (place n d.records) desk_most (not-true _ b.0) in
      let q = ltb-true (place 0 d.records) desk_most f.0 in
      record { nonzero = eqb-false n 0 (not-true _ a.0); absent = omega arith; suited = c.0; room = omega arith }

  abbrev new : Record
  new = opening n kind declared

  abbrev made : Desk → Desk
  made d = put d (place 0 d.records) (opening n kind declared)

  data Way (d : Desk) : Type 0 where
    refused : (opened d n kind declared).desk ≡ d → eqb (opened d n kind declared).number accepted ≡ false → Way d
    goes : (opened d n kind declared).desk ≡ made d → eqb (opened d n kind declared).number accepted ≡ true → Goes d → Way d

  way : (d : Desk) → GoodDesk d → Way d
  unfolding opened
  way d g =
      split (eqb (open_number d n kind declared) 0)
      (λ t. goes (rw t) t (open-goes d g (eqb-true _ _ t)))
      (λ t. refused (rw t) t)

  pub open-answer : (d : Desk) → GoodDesk d → 1 ≤ vacant d.records → (opened d n kind declared).number ≡ number_for (record_of n d)
  unfolding opened
  open-answer d g room = open-number d g room

  made-good : (d : Desk) → GoodDesk d → Goes d → GoodDesk (made d)
  made-good d g w = record {
    eight = length-set d.records (place 0 d.records) (opening n kind declared) ∙ g.eight;
    right =
        let e = opening-number n kind declared in
        sound-put d (place 0 d.records) new g.right
        (sound_other d.records (place 0 d.records) new (sound_records_lem d g.right)
        (used_sound new (opening-used n kind declared w.suited) (λ y. w.nonzero (sym e ∙ y)))
        (λ z. rw e w.absent));
  }

  pub open-good : (d : Desk) → GoodDesk d → GoodDesk (opened d n kind declared).desk
  open-good d g = elim (way d g) [
    | refused e t ↦ rw e g
    | goes e t w ↦ rw e (made-good d g w)
  ]

  pub open-fills : (d : Desk) → GoodDesk d → vacant d.records ≤ vacant (opened d n kind declared).desk.records + 1
  open-fills d g = elim (way d g) [
    | refused e t ↦ rw e (omega arith)
    | goes e t w ↦ rw e (vacant-one d.records (place 0 d.records) new)
  ]

  pub open-others : (d : Desk) → GoodDesk d → (st : List ℕ) (m : ℕ) → (m ≡ n → ⊥) → see m (kept (opened d n kind declared).desk st) ≡ see m (kept d st)
  open-others d g st m ne = elim (way d g) [
    | refused e t ↦ rw e
    | goes e t w ↦ rw e
        (split (eqb m 0)
        (λ u. rw (eqb-true m 0 u) (see-zero (made d) (made-good d g w) st ∙ sym (see-zero d g st)))
        (λ u. put_other d (place 0 d.records) new m
        (λ y. eqb-false m 0 u (sym y ∙ place-number 0 d.records w.room))
        (λ y. ne (sym y ∙ opening-number n kind declared)) st))
  ]

  pub open-here : (d : Desk) → GoodDesk d → (st : List ℕ)
      → see n (kept (opened d n kind declared).desk st) ≡ cond (eqb (opened d n kind declared).number accepted) (seen (opening n kind declared) []) (see n (kept d st))
  open-here d g st =
      elim (way d g) [
        | refused e t ↦ rw (e, t)
        | goes e t w ↦
            let f = at_new n d.records (place 0 d.records) new w.room w.absent (opening-number n kind declared) in
            rw (e, t)
            (seen_eq f
            (ap (λ (r : Record). take r.received (drop (declared_most * place n (made d).records) st)) f
            ∙ ap (λ (i : ℕ). take i (drop (declared_most * place n (made d).records) st)) (opening_received n kind declared)))
      ]

  -- an accepted open makes the record that the paper says
  pub open-makes : (d : Desk) → GoodDesk d → (opened d n kind declared).number ≡ accepted → record_of n (opened d n kind declared).desk ≡ opening n kind declared
  open-makes d g a = elim (way d g) [
    | refused e t ↦ absurd (eqb-false _ _ t a)
    | goes e t w ↦ rw e (at_new n d.records (place 0 d.records) new w.room w.absent (opening-number n kind declared))
  ]
