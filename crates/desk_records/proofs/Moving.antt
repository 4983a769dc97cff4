-- Each move of the table takes a record that may stand on a sound desk to one with the same number that may, or to the empty one.
-- Assumes nothing.
use Prim.Native.Nat.{ℕ, ◌+◌, ◌-◌, ◌<◌, ◌≤◌}
use mathlib.Core.Path.{◌≡◌, refl, sym}
use mathlib.Core.Bool.{Bool, true, false, ◌&&◌, ◌||◌}
use native.Mathlib.Omega.{arith}
use lib.Dec.{eqb, leb}
use borrow.Author.Tests.{eq-eqb, ne_eqb, eqb-true, eqb-false, ltb-true, lt-ltb, leb-true, le-leb}
use Rattle.paper.specs.Limits.{declared_most}
use Rattle.paper.proofs.Tests.{and_left, and_right, and_both, split}
use Rattle.desk_records.specs.declared.Record.{Record}
use Rattle.desk_records.specs.declared.Finish.{Finish}
use Rattle.desk_records.specs.declared.Finish.TheVariants.{Failed, Good}
use Rattle.desk_records.specs.Record.{needs_input, triggered, running, have_results, completed, failed, abandoned, empty, between, suits, declares_none, declares_some, declares_any, sound_record, declared_sound, state_sound, received_sound, due_sound}
use Rattle.desk_records.specs.Moves.{Move, opening, becomes, owing, feeding, starting, finishing, taking, killing, closing}

-- what soundness asks of the record of an operation
pub record Used (r : Record) : Type 0 where
  pub suited : suits r.kind r.declared ≡ true
  pub states : between needs_input r.state abandoned ≡ true
  pub receives : received_sound r ≡ true
  pub owes : due_sound r ≡ true

pub sound-used : (r : Record) → sound_record r ≡ true → (r.number ≡ 0 → ⊥) → Used r
unfolding sound_record declared_sound state_sound
sound-used r s z =
    let a = declared_sound r in
    let b = state_sound r in
    let c = received_sound r in
    let h : a && b && c && due_sound r ≡ true = rw (ne_eqb _ _ z) at s in
    let h2 = and_left (a && b && c) (due_sound r) h in
    let h1 = and_left (a && b) c h2 in
    record { suited = and_left a b h1; states = and_right a b h1; receives = and_right (a && b) c h2; owes = and_right (a && b && c) (due_sound r) h }

pub used_sound : (r : Record) → Used r → (r.number ≡ 0 → ⊥) → sound_record r ≡ true
unfolding sound_record declared_sound state_sound
used_sound r u z = rw (ne_eqb _ _ z) (and_both _ _ (and_both _ _ (and_both _ _ u.suited u.states) u.receives) u.owes)

between-low : (a n b : ℕ) → between a n b ≡ true → a ≤ n
between-low a n b e = leb-true _ _ (and_left (leb a n) (leb n b) e)

between-high : (a n b : ℕ) → between a n b ≡ true → n ≤ b
between-high a n b e = leb-true _ _ (and_right (leb a n) (leb n b) e)

either : {C : Type 0} (a b : Bool) → a || b ≡ true → (a ≡ true → C) → (b ≡ true → C) → C
either true b e f g = f e
either false b e f g = g e

-- "declared request bytes of one operation", at most
pub declared_most_lem : (r : Record) → Used r → r.declared ≤ declared_most
unfolding suits
declared_most_lem r u =
    let k = r.kind in
    let n = r.declared in
    either (declares_none k && eqb n 0 || declares_some k && between 1 n declared_most) (declares_any k && between 0 n declared_most) u.suited
    (λ e. either (declares_none k && eqb n 0) (declares_some k && between 1 n declared_most) e
    (λ f. let z = eqb-true n 0 (and_right (declares_none k) (eqb n 0) f) in omega arith)
    (λ f. between-high 1 n declared_most (and_right (declares_some k) _ f)))
    (λ e. between-high 0 n declared_most (and_right (declares_any k) _ e))

pub received_most : (r : Record) → Used r → r.received ≤ r.declared
unfolding received_sound
received_most r u =
    let h = u.receives in
    split (eqb r.state needs_input)
    (λ t. let k : r.received < r.declared = ltb-true _ _ (rw t at h) in omega arith)
    (λ t. split (eqb r.state abandoned)
    (λ v. leb-true _ _ (rw (t, v) at h))
    (λ v. let k : r.received ≡ r.declared = eqb-true _ _ (rw (t, v) at h) in omega arith))

pub data Next (r r' : Record) : Type 0 where
  on : r'.number ≡ r.number → Used r' → Next r r'
  off : r' ≡ empty → Next r r'

abbrev pub Safe : Move → Type 0
Safe m = (r : Record) → Used r → m.allowed r ≡ true → m.fits r ≡ true → Next r (m.next r)

-- a record that keeps its number, type and declared bytes
stays : (r : Record) (s rec due : ℕ) → Used r → between needs_input s abandoned ≡ true → received_sound (becomes r s rec due) ≡ true → due_sound (becomes r s rec due) ≡ true → Next r (becomes r s rec due)
stays r s rec due u a b c = on refl (record { suited = u.suited; states = a; receives = b; owes = c })

pub feeding_safe : (count : ℕ) → Safe (feeding count)
unfolding feeding received_sound due_sound
feeding_safe count r u a f =
    let s = eqb-true r.state needs_input a in
    let h = between-high 1 count (r.declared - r.received) f in
    let k : r.received < r.declared = ltb-true _ _ (rw s at u.receives) in
    let o : eqb r.due 0 ≡ true = rw s at u.owes in
    split (eqb (r.received + count) r.declared)
    (λ t. rw t (stays r triggered (r.received + count) r.due u refl t o))
    (λ t. let ne = eqb-false (r.received + count) r.declared t in rw t (stays r needs_input (r.received + count) r.due u refl (lt-ltb (r.received + count) r.declared (omega (arith, ne))) o))

pub starting_safe : Safe starting
unfolding starting received_sound due_sound
starting_safe r u a f =
    let s = eqb-true r.state triggered a in
    stays r running r.received r.due u refl (rw s at u.receives) (rw s at u.owes)

owing_safe : (due : ℕ) (r : Record) → Used r → eqb r.received r.declared ≡ true → Next r (owing due r)
unfolding received_sound due_sound
owing_safe due r u h =
    split (eqb due 0)
    (λ t. rw t (stays r completed r.received due u refl h t))
    (λ t. let ne = eqb-false due 0 t in rw t (stays r have_results r.received due u refl h (le-leb 1 due (omega (arith, ne)))))

pub finishing_safe : (f : Finish) → Safe (finishing f)
unfolding finishing received_sound due_sound
finishing_safe Failed r u a f =
    let s = eqb-true r.state running a in
    stays r failed r.received r.due u refl (rw s at u.receives) (rw s at u.owes)
finishing_safe (Good due) r u a f =
    let s = eqb-true r.state running a in
    owing_safe due r u (rw s at u.receives)

pub taking_safe : (count : ℕ) → Safe (taking count)
unfolding taking received_sound
taking_safe count r u a f =
    let s = eqb-true r.state have_results a in
    owing_safe (r.due - count) r u (rw s at u.receives)

pub killing_safe : Safe killing
unfolding killing received_sound due_sound
killing_safe r u a f = stays r abandoned r.received 0 u refl (le-leb _ _ (received_most r u)) refl

pub closing_safe : Safe closing
unfolding closing
closing_safe r u a f = off refl

-- the record that open makes
pub opening-used : (n kind declared : ℕ) → suits kind declared ≡ true → Used (opening n kind declared)
unfolding opening received_sound due_sound
opening-used n kind declared s =
    split (eqb declared 0)
    (λ t. let z = eqb-true declared 0 t in rw t (record { suited = s; states = refl; receives = eq-eqb 0 declared (sym z); owes = refl }))
    (λ t. let z = eqb-false declared 0 t in rw t (record { suited = s; states = refl; receives = lt-ltb 0 declared (omega (arith, z)); owes = refl }))

pub opening-number : (n kind declared : ℕ) → (opening n kind declared).number ≡ n
unfolding opening
opening-number n kind declared = refl

pub opening_received : (n kind declared : ℕ) → (opening n kind declared).received ≡ 0
unfolding opening
opening_received n kind declared = refl

-- no move but feed adds received bytes
abbrev pub Keeps : Move → Type 0
Keeps m = (r : Record) → (m.next r).received ≤ r.received

pub starting-kept : Keeps starting
unfolding starting
starting-kept r = omega arith

pub finishing-kept : (f : Finish) → Keeps (finishing f)
unfolding finishing
finishing-kept Failed r = omega arith
finishing-kept (Good due) r = omega arith

pub taking-kept : (count : ℕ) → Keeps (taking count)
unfolding taking
taking-kept count r = omega arith

pub killing-kept : Keeps killing
unfolding killing
killing-kept r = omega arith

pub closing-kept : Keeps closing
unfolding closing
closing-kept r = omega arith
