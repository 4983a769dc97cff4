-- What each call answers, on every desk and every store, sound or not: the number, the whole desk after and the whole store after.
--   opened, fed, started, finished, taken, killed, closed     the number and the desk after
--   Fed                                                       what feed answers, and the store after it
--   fed_store                                                  the store after a feed; no other call is lent it
--   kept_from                                                  where in the store a feed keeps its bytes
--   told, listed                                              what status and list answer; the desk stays
--   said                                                      the number that an answer of the code says: 0, or the refusal's in the table
--   moved, told_moved, telling_of, listing_of                 what the code hands back, said so
-- The orders of the tests stand in admit, open_number and call_number; what a call does to a record stands in Moves.
use Rattle.std.specs.Prelude.{ℕ, ◌+◌, ◌*◌, ◌≡◌, Bool, not, cond, List, [], length, eqb, Result, Ok, Err}
use Rattle.std.proofs.Math.Seq.{paste}
use Rattle.paper.specs.Checks.{choose}
use Rattle.paper.specs.Limits.{declared_most, store_bytes}
use Rattle.paper.specs.Refusals.{accepted, not_sound, number_zero, in_use, all_taken, no_such_number, not_allowed, open_wrong, amount_wrong}
use Rattle.paper.specs.Refusal.{number_of}
use Rattle.paper.specs.declared.Refusal.{Refusal}
use Rattle.desk_records.specs.declared.Record.{Record}
use Rattle.desk.specs.declared.Desk.{Desk}
use Rattle.desk_records.specs.declared.Finish.{Finish}
use Rattle.desk.specs.declared as code
use Rattle.desk_records.specs.Record.{empty, suits}
use Rattle.desk_records.specs.Moves.{Move, opening, feeding, starting, finishing, taking, killing, closing}
use Rattle.desk.specs.Desk.{place, sound, has, record_of, put}
use Rattle.desk.specs.Listing.{numbers, rising, then_zeros}

-- "A desk is a value: each call takes one and hands back the next." The number is 0 or the refusal's.
pub record Moved : Type 0 where
  pub desk : Desk
  pub number : ℕ

-- Status and list change nothing, so that they hand back no desk.
pub record Told : Type 0 where
  pub number : ℕ
  pub state : ℕ
  pub received : ℕ
  pub due : ℕ

pub record Listed : Type 0 where
  pub number : ℕ
  pub operations : List ℕ

-- the number of an answer: acceptance is 0
abbrev pub said : Result (Unit {0}) Refusal → ℕ
said (Ok x) = accepted
said (Err k) = number_of k

abbrev pub moved : Desk → Result (Unit {0}) Refusal → Moved
moved d r = record { desk = d; number = said r }

abbrev pub told_moved : code.Moved.Moved → Moved
told_moved m = moved m.desk m.answer

-- a test with the number that is given where it fails; the tests after it wait
abbrev pub unless : Bool → ℕ → (Unit {0} → ℕ) → ℕ
unless test number rest = choose test rest (λ _. number)

-- "The desk tests 20, 21, then .."
abbrev pub admit : Desk → ℕ → (Unit {0} → ℕ) → ℕ
admit d n rest =
    unless (sound d) not_sound λ _.
    unless (not (eqb n 0)) number_zero rest

-- An accepted call replaces one record; "A refusal changes nothing lent".
abbrev pub settle : Desk → ℕ → ℕ → Record → Moved
settle d number p r = record { desk = cond (eqb number accepted) (put d p r) d; number = number }

-- ".. then for open 22, 26, 23"
unfoldable pub open_number : Desk → ℕ → ℕ → ℕ → ℕ
open_number d n kind declared =
    admit d n λ _.
    unless (not (has n d)) in_use λ _.
    unless (suits kind declared) open_wrong λ _.
    unless (has 0 d) all_taken λ _.
    accepted

-- "The lowest empty place is used, one freed earlier included."
unfoldable pub opened : Desk → ℕ → ℕ → ℕ → Moved
opened d n kind declared = settle d (open_number d n kind declared) (place 0 d.records) (opening n kind declared)

-- ".. for others 24, 25, 27": a call that names a known operation, and moves it by m
unfoldable pub call_number : Desk → ℕ → Move → ℕ
call_number d n m =
    admit d n λ _.
    unless (has n d) no_such_number λ _.
    unless (m.allowed (record_of n d)) not_allowed λ _.
    unless (m.fits (record_of n d)) amount_wrong λ _.
    accepted

-- The five calls below, and feed, are this one.
unfoldable pub called : Desk → ℕ → Move → Moved
called d n m = settle d (call_number d n m) (place n d.records) (m.next (record_of n d))

abbrev pub started : Desk → ℕ → Moved
started d n = called d n starting

abbrev pub finished : Desk → ℕ → Finish → Moved
finished d n f = called d n (finishing f)

abbrev pub taken : Desk → ℕ → ℕ → Moved
taken d n count = called d n (taking count)

abbrev pub killed : Desk → ℕ → Moved
killed d n = called d n killing

abbrev pub closed : Desk → ℕ → Moved
closed d n = called d n closing

-- 20 for "desk not sound (below), or the store isn't 32,768 bytes"
unfoldable pub feed_number : Desk → List ℕ → ℕ → List ℕ → ℕ
feed_number d store n piece =
    unless (eqb (length store) store_bytes) not_sound λ _.
    call_number d n (feeding (length piece))

-- "received grows by their count; 2 once all are in"
unfoldable pub fed : Desk → List ℕ → ℕ → List ℕ → Moved
fed d store n piece =
    settle d (feed_number d store n piece) (place n d.records) ((feeding (length piece)).next (record_of n d))

-- "the bytes are kept after those already received, in that place's 4,096 bytes (place p, from 0, has those from 4,096p)"
abbrev pub kept_from : Desk → ℕ → ℕ
kept_from d n = declared_most * place n d.records + (record_of n d).received

unfoldable pub fed_store : Desk → List ℕ → ℕ → List ℕ → List ℕ
fed_store d store n piece =
    choose (eqb (feed_number d store n piece) accepted)
    (λ _. paste store (kept_from d n) piece (length piece))
    (λ _. store)

-- the contract of feed, the one call that is lent the store
pub record Fed (d : Desk) (store : List ℕ) (n : ℕ) (piece : List ℕ) (r : Moved) (after : List ℕ) : Type 0 where
  pub moved : r ≡ fed d store n piece
  pub stored : after ≡ fed_store d store n piece

-- 24 is for "other calls but status".
unfoldable pub status_number : Desk → ℕ → ℕ
status_number d n = admit d n λ _. accepted

-- "status: state, received and due counts; for an unknown number state 0 and zeros."
abbrev pub telling : ℕ → Record → Told
telling number r = record { number = number; state = r.state; received = r.received; due = r.due }

-- a refusal tells zeros
abbrev pub telling_of : Result code.Told.Told Refusal → Told
telling_of (Ok t) = record { number = accepted; state = t.state; received = t.received; due = t.due }
telling_of (Err k) = telling (number_of k) empty

unfoldable pub told : Desk → ℕ → Told
told d n = telling (status_number d n) (cond (eqb (status_number d n) accepted) (record_of n d) empty)

-- List names no operation, so that 20 is its only refusal.
unfoldable pub list_number : Desk → ℕ
list_number d = unless (sound d) not_sound λ _. accepted

-- "list: the numbers in rising order, then zeros."
unfoldable pub listed : Desk → Listed
listed d = record {
  number = list_number d;
  operations = then_zeros (cond (eqb (list_number d) accepted) (rising (numbers d.records)) []);
}

abbrev pub listing_of : Result (List ℕ) Refusal → Listed
listing_of (Ok ns) = record { number = accepted; operations = ns }
listing_of (Err k) = record { number = number_of k; operations = then_zeros [] }
