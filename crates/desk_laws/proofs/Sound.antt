-- The test `sound` is exactly the paper's sentence (`sound_exactly`), of which "no two nonzero numbers are equal" is one part (`numbers_apart`); so is the test
-- `suits` the sentence on types and lengths (`suits_exactly`).
-- Assumes a desk of eight records.
use Prim.Native.Nat.{ℕ, zero, suc, ◌<◌, ◌≤◌}
use mathlib.Core.Path.{◌≡◌, sym, ◌∙◌}
use mathlib.Core.Logic.{◌↔◌}
use mathlib.Core.Bool.{Bool, true, false, ◌&&◌, ◌||◌}
use mathlib.Core.List.{List, [], ◌∷◌}
use native.Mathlib.Nat.{le_of_suc-le-suc, not-suc-le-zero}
use native.Mathlib.Omega.{arith}
use lib.ListN.{length, get_or}
use lib.Dec.{eqb, leb, ltb}
use borrow.Author.Tests.{eq-eqb, ne_eqb, eqb-true, eqb-false, ltb-true, ltb-false, lt-ltb, leb-true, le-leb}
use Rattle.paper.specs.Limits.{desk_most, declared_most}
use Rattle.paper.proofs.Tests.{and_left, and_right, and_both, split}
use Rattle.desk_records.specs.declared.Record.{Record}
use Rattle.desk_records.specs.Record.{head, read, create, delete, update, replace, action, needs_input, have_results, abandoned, empty, between, suits, declares_none, declares_some, declares_any, sound_record, received_sound, due_sound}
use Rattle.desk_records.proofs.Moving.{Used, sound-used, used_sound}
use Rattle.desk.specs.declared.Desk.{Desk}
use Rattle.desk.specs.Desk.{place, sound_records, sound}
use Rattle.desk.proofs.Places.{place-number}
use Rattle.desk.proofs.Soundness.{sound-alone, sound-tail, sound_cons, sound_none, alone-absent, absent-alone, sound-at, zero-empty, empty-sound, sound_records_lem}
use Rattle.desk_laws.specs.Refusing.{record_at}
use Rattle.desk_laws.specs.Sound.{Declares, by_head, by_read, by_delete, by_create, by_update, by_replace, by_action, Right, Apart, Sound}
use Rattle.desk_laws.proofs.Standing.{place-least}

either : {C : Type 0} (a b : Bool) → a || b ≡ true → (a ≡ true → C) → (b ≡ true → C) → C
either true b e f g = f e
either false b e f g = g e

module _ (kind declared : ℕ) where
  none-declares : declares_none kind && eqb declared 0 ≡ true → Declares kind declared
  none-declares e =
      let z = eqb-true declared 0 (and_right (declares_none kind) (eqb declared 0) e) in
      either (eqb kind head || eqb kind read) (eqb kind delete) (and_left (declares_none kind) (eqb declared 0) e)
      (λ f. either (eqb kind head) (eqb kind read) f (λ t. by_head (eqb-true _ _ t) z) (λ t. by_read (eqb-true _ _ t) z))
      (λ t. by_delete (eqb-true _ _ t) z)

  some-declares : declares_some kind && between 1 declared declared_most ≡ true → Declares kind declared
  some-declares e =
      let b = and_right (declares_some kind) (between 1 declared declared_most) e in
      let l = leb-true 1 declared (and_left (leb 1 declared) (leb declared declared_most) b) in
      let h = leb-true declared declared_most (and_right (leb 1 declared) (leb declared declared_most) b) in
      either (eqb kind create || eqb kind update) (eqb kind replace) (and_left (declares_some kind) (between 1 declared declared_most) e)
      (λ f. either (eqb kind create) (eqb kind update) f (λ t. by_create (eqb-true _ _ t) l h) (λ t. by_update (eqb-true _ _ t) l h))
      (λ t. by_replace (eqb-true _ _ t) l h)

  any_declares : declares_any kind && between 0 declared declared_most ≡ true → Declares kind declared
  any_declares e =
      let b = and_right (declares_any kind) (between 0 declared declared_most) e in
      by_action (eqb-true kind action (and_left (declares_any kind) (between 0 declared declared_most) e)) (leb-true declared declared_most (and_right (leb 0 declared) (leb declared declared_most) b))

  suited-declares : suits kind declared ≡ true → Declares kind declared
  unfolding suits
  suited-declares e =
      either (declares_none kind && eqb declared 0 || declares_some kind && between 1 declared declared_most) (declares_any kind && between 0 declared declared_most) e
      (λ f. either (declares_none kind && eqb declared 0) (declares_some kind && between 1 declared declared_most) f none-declares some-declares)
      any_declares

  declares-suited : Declares kind declared → suits kind declared ≡ true
  unfolding suits
  declares-suited (by_head e z) = rw (e, z)
  declares-suited (by_read e z) = rw (e, z)
  declares-suited (by_delete e z) = rw (e, z)
  declares-suited (by_create e l h) = rw (e, le-leb 1 declared l, le-leb declared declared_most h)
  declares-suited (by_update e l h) = rw (e, le-leb 1 declared l, le-leb declared declared_most h)
  declares-suited (by_replace e l h) = rw (e, le-leb 1 declared l, le-leb declared declared_most h)
  declares-suited (by_action e h) = rw (e, le-leb 0 declared (omega arith), le-leb declared declared_most h)

  pub suits_exactly : (suits kind declared ≡ true) ↔ Declares kind declared
  suits_exactly = (suited-declares, declares-suited)

module _ (r : Record) where
  receives_1 : received_sound r ≡ true → r.state ≡ needs_input → r.received < r.declared
  unfolding received_sound
  receives_1 u e = ltb-true _ _ (rw (eq-eqb _ _ e) at u)

  receives_7 : received_sound r ≡ true → r.state ≡ abandoned → r.received ≤ r.declared
  unfolding received_sound
  receives_7 u e =
      let x = ne_eqb r.state needs_input (omega arith) in
      leb-true _ _ (rw (x, eq-eqb r.state abandoned e) at u)

  receives_else : received_sound r ≡ true → (r.state ≡ needs_input → ⊥) → (r.state ≡ abandoned → ⊥) → r.received ≡ r.declared
  unfolding received_sound
  receives_else u x y = eqb-true _ _ (rw (ne_eqb _ _ x, ne_eqb _ _ y) at u)

  owes_4 : due_sound r ≡ true → r.state ≡ have_results → 1 ≤ r.due
  unfolding due_sound
  owes_4 u e = leb-true _ _ (rw (eq-eqb _ _ e) at u)

  owes_else : due_sound r ≡ true → (r.state ≡ have_results → ⊥) → r.due ≡ 0
  unfolding due_sound
  owes_else u x = eqb-true _ _ (rw (ne_eqb _ _ x) at u)

  used-right : Used r → Right r
  used-right u = record {
    declares = suited-declares r.kind r.declared u.suited;
    from_1 = leb-true needs_input r.state (and_left (leb needs_input r.state) (leb r.state abandoned) u.states);
    to_7 = leb-true r.state abandoned (and_right (leb needs_input r.state) (leb r.state abandoned) u.states);
    in_1 = λ e. omega (arith, receives_1 u.receives e);
    in_2_to_6 = λ l h. receives_else u.receives (λ e. omega arith) (λ e. omega arith);
    in_7 = receives_7 u.receives;
    due_in_4 = owes_4 u.owes;
    else_none = owes_else u.owes;
  }

  right-receives : Right r → received_sound r ≡ true
  unfolding received_sound
  right-receives x =
      let a = x.from_1 in
      let b = x.to_7 in
      split (eqb r.state needs_input)
      (λ t. rw t (lt-ltb _ _ (x.in_1 (eqb-true _ _ t))))
      (λ t. split (eqb r.state abandoned)
      (λ v. rw (t, v) (le-leb _ _ (x.in_7 (eqb-true _ _ v))))
      (λ v.
      let e = eqb-false r.state needs_input t in
      let f = eqb-false r.state abandoned v in
      rw (t, v) (eq-eqb _ _ (x.in_2_to_6 (omega (arith, e)) (omega (arith, f))))))

  right-owes : Right r → due_sound r ≡ true
  unfolding due_sound
  right-owes x =
      split (eqb r.state have_results)
      (λ t. rw t (le-leb 1 r.due (x.due_in_4 (eqb-true _ _ t))))
      (λ t. rw t (eq-eqb _ _ (x.else_none (eqb-false _ _ t))))

  right-used : Right r → Used r
  right-used x = record {
    suited = declares-suited r.kind r.declared x.declares;
    states = and_both _ _ (le-leb needs_input r.state x.from_1) (le-leb r.state abandoned x.to_7);
    receives = right-receives x;
    owes = right-owes x;
  }

-- of records one after the other, two at different places
abbrev ApartIn : List Record → Type 0
ApartIn rs =
    (p q : ℕ) → p < q → q < length rs → ((get_or rs p empty).number ≡ 0 → ⊥) → (get_or rs p empty).number ≡ (get_or rs q empty).number → ⊥

records_apart : (rs : List Record) → sound_records rs ≡ true → ApartIn rs
records_apart [] s p q l h z e = not-suc-le-zero h
records_apart (r ∷ rs) s zero zero l h z e = omega arith
records_apart (r ∷ rs) s zero (suc q) l h z e =
    let a = alone-absent r.number rs (sound-alone r rs s) z in
    let b = place-least r.number rs q (le_of_suc-le-suc h) (sym e) in
    let c = le_of_suc-le-suc h in
    omega arith
records_apart (r ∷ rs) s (suc p) zero l h z e = omega arith
records_apart (r ∷ rs) s (suc p) (suc q) l h z e = records_apart rs (sound-tail r rs s) p q (le_of_suc-le-suc l) (le_of_suc-le-suc h) z e

apart_records : (rs : List Record) → ApartIn rs → ((p : ℕ) → p < length rs → sound_record (get_or rs p empty) ≡ true) → sound_records rs ≡ true
apart_records [] a f = sound_none
apart_records (r ∷ rs) a f =
    sound_cons r rs (f 0 (omega arith))
    (absent-alone r.number rs (λ z.
    split (ltb (place r.number rs) (length rs))
    (λ t.
    let h = ltb-true (place r.number rs) (length rs) t in
    absurd (a 0 (suc (place r.number rs)) (omega arith) (omega arith) z (sym (place-number r.number rs h))))
    (λ t. ltb-false (place r.number rs) (length rs) t)))
    (apart_records rs (λ p q l h. a (suc p) (suc q) (omega arith) (omega arith)) (λ p h. f (suc p) (omega arith)))

module _ (d : Desk) (l : length d.records ≡ desk_most) where
  -- "no two nonzero numbers are equal"
  pub numbers_apart : sound d ≡ true → Apart d
  numbers_apart s p q hp hq ne z e =
      split (ltb p q)
      (λ t. records_apart d.records (sound_records_lem d s) p q (ltb-true p q t) (omega arith) z e)
      (λ t.
      let b = ltb-false p q t in
      records_apart d.records (sound_records_lem d s) q p (omega (arith, ne)) (omega arith) (λ y. z (e ∙ y)) (sym e))

  sound-right : sound d ≡ true → Sound d
  sound-right s = record {
    apart = numbers_apart s;
    empties = λ p h z. zero-empty (record_at d p) (sound-at d.records p (sound_records_lem d s) (omega arith)) z;
    others = λ p h z. used-right (record_at d p) (sound-used (record_at d p) (sound-at d.records p (sound_records_lem d s) (omega arith)) z);
  }

  place-right : Sound d → (p : ℕ) → p < desk_most → sound_record (record_at d p) ≡ true
  place-right x p h =
      split (eqb (record_at d p).number 0)
      (λ t. rw (x.empties p h (eqb-true _ _ t)) empty-sound)
      (λ t. used_sound (record_at d p) (right-used (record_at d p) (x.others p h (eqb-false _ _ t))) (eqb-false _ _ t))

  right-sound : Sound d → sound d ≡ true
  unfolding sound
  right-sound x =
      apart_records d.records
      (λ p q less h z e. x.apart p q (omega arith) (omega arith) (λ y. omega arith) z e)
      (λ p h. place-right x p (omega arith))

  pub sound_exactly : (sound d ≡ true) ↔ Sound d
  sound_exactly = (sound-right, right-sound)
