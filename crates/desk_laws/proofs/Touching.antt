-- Every call touches its own number alone; on a desk that is not sound it changes nothing, and its answer is 20.
-- Assumes nothing.
use Prim.Native.Nat.{ℕ, ◌+◌, ◌≤◌}
use mathlib.Core.Path.{◌≡◌, refl, ap}
use mathlib.Core.Bool.{Bool, false, not, cond}
use mathlib.Core.List.{List, [], ◌++◌}
use native.Mathlib.Omega.{arith}
use lib.ListN.{length, take}
use lib.Dec.{eqb}
use Rattle.paper.specs.Limits.{store_bytes}
use Rattle.paper.specs.Refusals.{accepted, not_sound, number_zero}
use Rattle.swapping.specs.Calls.{Good, Touches}
use Rattle.paper.proofs.Tests.{split}
use Rattle.desk_records.specs.declared.Record.{Record}
use Rattle.desk_records.specs.Record.{empty}
use Rattle.desk_records.specs.Moves.{Move, opening, feeding, starting, finishing, taking, killing, closing}
use Rattle.desk_records.proofs.Moving.{Safe, Keeps, feeding_safe, starting_safe, finishing_safe, taking_safe, killing_safe, closing_safe, starting-kept, finishing-kept, taking-kept, killing-kept, closing-kept}
use Rattle.desk.specs.declared.Desk.{Desk}
use Rattle.desk.specs.Desk.{sound, record_of}
use Rattle.desk.specs.Calls.{unless, open_number, opened, call_number, called, feed_number, fed, fed_store, status_number, telling, told}
use Rattle.desk.proofs.Settling.{full-fed, short-fed, short-store}
use Rattle.desk_laws.specs.View.{GoodDesk, Kept, Seen, see}
use Rattle.desk_laws.specs.State.{Asked, to_open, to_feed, to_start, to_finish, to_take, to_kill, to_close, to_tell, Call, call, Answer, number, counts, number_in, on_desk, makes, make, vacant, opens_of, full_store, desk_calls}
use Rattle.desk_laws.specs.Refusing.{refusal_with}
use Rattle.desk_laws.proofs.Putting.{kept, seen}
use Rattle.desk_laws.proofs.ByNumber
use Rattle.desk_laws.proofs.Opening
use Rattle.desk_laws.proofs.Feeding

pub good-desk : (k : Kept) → Good desk_calls k → GoodDesk k.desk
good-desk k g = record { eight = g.whole; right = g.right }

pub good-kept : (k : Kept) → GoodDesk k.desk → Good desk_calls k
good-kept k g = record { whole = g.eight; right = g.right }

-- "desk not sound": 20, with no counts
abbrev pub refusal_of : Asked → Answer
refusal_of a = refusal_with a not_sound

called_unsound : (d : Desk) → sound d ≡ false → (n : ℕ) (m : Move) → called d n m ≡ record { desk = d; number = not_sound }
unfolding called call_number
called_unsound d s n m = rw s

opened_unsound : (d : Desk) → sound d ≡ false → (n kind declared : ℕ) → opened d n kind declared ≡ record { desk = d; number = not_sound }
unfolding opened open_number
opened_unsound d s n kind declared = rw s

feed_unsound : (d : Desk) → sound d ≡ false → (st : List ℕ) (n : ℕ) (piece : List ℕ) → feed_number d st n piece ≡ not_sound
unfolding feed_number call_number
feed_unsound d s st n piece = split (eqb (length st) store_bytes) (λ t. rw (t, s)) (λ t. rw t)

told_unsound : (d : Desk) → sound d ≡ false → (n : ℕ) → told d n ≡ telling not_sound empty
unfolding told status_number
told_unsound d s n = rw s

makes_unsound : (a : Asked) (n : ℕ) (k : Kept) → sound k.desk ≡ false → makes a n k ≡ record { kept = k; answer = refusal_of a }
unfolding makes fed fed_store
makes_unsound (to_open kind declared) n k s = rw (opened_unsound k.desk s n kind declared)
makes_unsound (to_feed piece) n k s = rw (feed_unsound k.desk s k.store n piece)
makes_unsound to_start n k s = rw (called_unsound k.desk s n starting)
makes_unsound (to_finish f) n k s = rw (called_unsound k.desk s n (finishing f))
makes_unsound (to_take count) n k s = rw (called_unsound k.desk s n (taking count))
makes_unsound to_kill n k s = rw (called_unsound k.desk s n killing)
makes_unsound to_close n k s = rw (called_unsound k.desk s n closing)
makes_unsound to_tell n k s = rw (told_unsound k.desk s n)

pub unsound : (c : Call) (k : Kept) → sound k.desk ≡ false → make c k ≡ record { kept = k; answer = refusal_of c.asked }
unsound c k s = makes_unsound c.asked c.named k s

-- what a call has to show on a sound desk: `Touches` less what all share
record Shows (a : Asked) (n : ℕ) : Type 0 where
  decides : Bool → Seen → Answer
  becomes : Answer → Seen → Seen
  answers : (k : Kept) → GoodDesk k.desk → opens_of a ≤ vacant k.desk.records → (makes a n k).answer ≡ decides (full_store k) (see n k)
  here : (k : Kept) → GoodDesk k.desk → see n (makes a n k).kept ≡ becomes (makes a n k).answer (see n k)
  others : (k : Kept) → GoodDesk k.desk → (j : ℕ) → (j ≡ n → ⊥) → see j (makes a n k).kept ≡ see j k
  good : (k : Kept) → GoodDesk k.desk → GoodDesk (makes a n k).kept.desk
  size : (k : Kept) → GoodDesk k.desk → length (makes a n k).kept.store ≡ length k.store
  fills : (k : Kept) → GoodDesk k.desk → vacant k.desk.records ≤ vacant (makes a n k).kept.desk.records + opens_of a

-- the five calls that move a known operation and leave the store
module _ (a : Asked) (n : ℕ) (m : Move) (safe : Safe m) (less : Keeps m) (is : (k : Kept) → makes a n k ≡ on_desk k (called k.desk n m)) where
  moves : Shows a n
  moves = record {
    decides = λ b v. number (ByNumber.number_for n m v.entry);
    becomes = λ x v. cond (eqb (number_in x) accepted) (seen (m.next v.entry) (take (m.next v.entry).received v.bytes)) v;
    answers = λ k g r. rw (is k) (ap number (ByNumber.call-answer k.desk g n m));
    here = λ k g. rw (is k) (ByNumber.call-here n m safe k.desk g less k.store);
    others = λ k g j ne. rw (is k) (ByNumber.call-others n m safe k.desk g k.store j ne);
    good = λ k g. rw (is k) (ByNumber.call-good n m safe k.desk g);
    size = λ k g. rw (is k);
    fills = λ k g. rw (is k) (let e = ByNumber.call-fills n m safe k.desk g in omega arith);
  }

open-shows : (n kind declared : ℕ) → Shows (to_open kind declared) n
unfolding makes
open-shows n kind declared = record {
  decides = λ b v. number (Opening.number_for n kind declared v.entry);
  becomes = λ x v. cond (eqb (number_in x) accepted) (seen (opening n kind declared) []) v;
  answers = λ k g r. ap number (Opening.open-answer n kind declared k.desk g r);
  here = λ k g. Opening.open-here n kind declared k.desk g k.store;
  others = λ k g j ne. Opening.open-others n kind declared k.desk g k.store j ne;
  good = λ k g. Opening.open-good n kind declared k.desk g;
  size = λ k g. refl;
  fills = λ k g. Opening.open-fills n kind declared k.desk g;
}

module _ (n : ℕ) (piece : List ℕ) where
  abbrev feed_number_for : Bool → Record → ℕ
  feed_number_for b r = unless b not_sound λ _. ByNumber.number_for n (feeding (length piece)) r

  abbrev feed_becomes : Answer → Seen → Seen
  feed_becomes x v = cond (eqb (number_in x) accepted) (seen ((feeding (length piece)).next v.entry) (v.bytes ++ piece)) v

  module _ (k : Kept) (g : GoodDesk k.desk) where
    feed-answers : (fed k.desk k.store n piece).number ≡ feed_number_for (full_store k) (record_of n k.desk)
    feed-answers =
        split (full_store k)
        (λ t. rw (t, full-fed k.desk k.store n piece t) (ByNumber.call-answer k.desk g n (feeding (length piece))))
        (λ t. rw (t, short-fed k.desk k.store n piece t))

    feed-here : see n (kept (fed k.desk k.store n piece).desk (fed_store k.desk k.store n piece)) ≡ feed_becomes (number (fed k.desk k.store n piece).number) (see n k)
    feed-here =
        split (full_store k)
        (λ t. Feeding.feed-here k.desk g k.store t n piece)
        (λ t. rw (short-fed k.desk k.store n piece t, short-store k.desk k.store n piece t))

    feed-others : (j : ℕ) → (j ≡ n → ⊥) → see j (kept (fed k.desk k.store n piece).desk (fed_store k.desk k.store n piece)) ≡ see j k
    feed-others j ne =
        split (full_store k)
        (λ t. Feeding.feed-others k.desk g k.store t n piece j ne)
        (λ t. rw (short-fed k.desk k.store n piece t, short-store k.desk k.store n piece t))

    feed-good : GoodDesk (fed k.desk k.store n piece).desk
    feed-good =
        split (full_store k)
        (λ t. rw (full-fed k.desk k.store n piece t) (ByNumber.call-good n (feeding (length piece)) (feeding_safe (length piece)) k.desk g))
        (λ t. rw (short-fed k.desk k.store n piece t) g)

    feed-size : length (fed_store k.desk k.store n piece) ≡ length k.store
    feed-size =
        split (full_store k)
        (λ t. Feeding.feed-size k.desk g k.store t n piece)
        (λ t. rw (short-store k.desk k.store n piece t))

    feed-fills : vacant k.desk.records ≤ vacant (fed k.desk k.store n piece).desk.records + 0
    feed-fills =
        split (full_store k)
        (λ t. rw (full-fed k.desk k.store n piece t) (let e = ByNumber.call-fills n (feeding (length piece)) (feeding_safe (length piece)) k.desk g in omega arith))
        (λ t. rw (short-fed k.desk k.store n piece t) (omega arith))

  feed-shows : Shows (to_feed piece) n
  unfolding makes
  feed-shows = record {
    decides = λ b v. number (feed_number_for b v.entry);
    becomes = feed_becomes;
    answers = λ k g r. ap number (feed-answers k g);
    here = feed-here;
    others = feed-others;
    good = feed-good;
    size = feed-size;
    fills = feed-fills;
  }

abbrev status_number_for : ℕ → ℕ
status_number_for n = unless (not (eqb n 0)) number_zero λ _. accepted

status-answer : (n : ℕ) (d : Desk) → GoodDesk d → told d n ≡ telling (status_number_for n) (cond (eqb (status_number_for n) accepted) (record_of n d) empty)
unfolding told status_number
status-answer n d g = rw g.right

status-shows : (n : ℕ) → Shows to_tell n
unfolding makes
status-shows n = record {
  decides = λ b v. counts (telling (status_number_for n) (cond (eqb (status_number_for n) accepted) v.entry empty));
  becomes = λ x v. v;
  answers = λ k g r. ap counts (status-answer n k.desk g);
  here = λ k g. refl;
  others = λ k g j ne. refl;
  good = λ k g. g;
  size = λ k g. refl;
  fills = λ k g. omega arith;
}

shows : (a : Asked) (n : ℕ) → Shows a n
unfolding makes
shows (to_open kind declared) n = open-shows n kind declared
shows (to_feed piece) n = feed-shows n piece
shows to_start n = moves to_start n starting starting_safe starting-kept (λ k. refl)
shows (to_finish f) n = moves (to_finish f) n (finishing f) (finishing_safe f) (finishing-kept f) (λ k. refl)
shows (to_take count) n = moves (to_take count) n (taking count) (taking_safe count) (taking-kept count) (λ k. refl)
shows to_kill n = moves to_kill n killing killing_safe killing-kept (λ k. refl)
shows to_close n = moves to_close n closing closing_safe closing-kept (λ k. refl)
shows to_tell n = status-shows n

-- so every call touches its own number alone
touching : (a : Asked) (n : ℕ) → Shows a n → Touches desk_calls (call n a)
touching a n h = record {
  decides = h.decides;
  becomes = h.becomes;
  refusal = refusal_of a;
  answers = λ k g r. h.answers k (good-desk k g) r;
  here = λ k g. h.here k (good-desk k g);
  others = λ k g j ne. h.others k (good-desk k g) j ne;
  good = λ k g. good-kept (makes a n k).kept (h.good k (good-desk k g));
  same = λ k g. ap (λ (l : ℕ). eqb l store_bytes) (h.size k (good-desk k g));
  fills = λ k g. h.fills k (good-desk k g);
  refused = λ k s. rw (makes_unsound a n k s);
  stays = λ k s. rw (makes_unsound a n k s);
}

pub touches : (c : Call) → Touches desk_calls c
touches c = touching c.asked c.named (shows c.asked c.named)
