-- What a caller that keeps a desk as bytes may rely on: a refusal changes nothing lent; bytes of another length, or that spell no sound desk, are 20;
-- and the bytes after a call spell the desk after it, so that calls over bytes come to what the same calls on the desk come to.
-- Assumes nothing.
use Prim.Native.Nat.{ℕ}
use mathlib.Core.Path.{◌≡◌, refl, sym, ap, ◌∙◌}
use mathlib.Core.Bool.{false, true≢false}
use mathlib.Core.List.{List, []}
use Rattle.std.specs.Prelude.{Option, None, Some}
use lib.ListN.{length}
use lib.Dec.{eqb}
use borrow.Author.Tests.{ne_eqb, eqb-false}
use Rattle.paper.specs.Refusals.{accepted}
use Rattle.numbers.specs.Bytes.{Bytes}
use Rattle.desk.specs.declared.Desk.{Desk}
use Rattle.desk_records.specs.Moves.{starting, finishing, taking, killing, closing}
use Rattle.desk.specs.Desk.{sound}
use Rattle.desk_laws.specs.State.{Asked, to_open, to_feed, to_start, to_finish, to_take, to_kill, to_close, to_tell, Call, number_in, makes, make}
use Rattle.desk_laws.specs.View.{Kept}
use Rattle.desk_bytes.specs.Bytes.{desk_bytes, encode, decode}
use Rattle.paper.proofs.Tests.{split}
use Rattle.desk_laws.proofs.Putting.{kept}
use Rattle.desk.proofs.Settling.{open_stays, call_stays, feed-stays}
use Rattle.desk_laws.proofs.Touching.{refusal_of, unsound}
use Rattle.desk_laws.proofs.Listing.{lists_unsound}
use Rattle.desk_bytes.proofs.Codec.{decode-none, decode-encode}
use Rattle.desk_calls.specs.Served.{unread, answered, served_by, served, listed_by, served_list}
use Rattle.desk_calls.specs.Lending.{Unchanged, NarrowCall, Fine, AsMade, lends_store, with_store}
use Rattle.desk_calls.proofs.Narrowing.{make-fine, spelt-fine}

-- "A refusal changes nothing lent", for every call
makes-stays : (a : Asked) (n : ℕ) (k : Kept) → (number_in (makes a n k).answer ≡ accepted → ⊥) → (makes a n k).kept ≡ k
unfolding makes
makes-stays (to_open kind declared) n k z = ap (λ (d : Desk). kept d k.store) (open_stays n kind declared k.desk z)
makes-stays (to_feed piece) n k z = let e = feed-stays k.desk k.store n piece z in rw (e.0, e.1)
makes-stays to_start n k z = ap (λ (d : Desk). kept d k.store) (call_stays k.desk n starting z)
makes-stays (to_finish f) n k z = ap (λ (d : Desk). kept d k.store) (call_stays k.desk n (finishing f) z)
makes-stays (to_take count) n k z = ap (λ (d : Desk). kept d k.store) (call_stays k.desk n (taking count) z)
makes-stays to_kill n k z = ap (λ (d : Desk). kept d k.store) (call_stays k.desk n killing z)
makes-stays to_close n k z = ap (λ (d : Desk). kept d k.store) (call_stays k.desk n closing z)
makes-stays to_tell n k z = refl

pub make-stays : (c : Call) (k : Kept) → (number_in (make c k).answer ≡ accepted → ⊥) → (make c k).kept ≡ k
make-stays c k z = makes-stays c.asked c.named k z

refused_by : (c : Call) (bs st : List ℕ) (o : Option Desk) → ((served_by c bs st o).number ≡ accepted → ⊥) → Unchanged (served_by c bs st o) bs st
refused_by c bs st None z = record { desk = refl; store = refl; values = refl }
refused_by c bs st (Some d) z =
    record { desk = rw (ne_eqb _ _ z); store = ap (λ (k : Kept). k.store) (make-stays c (kept d st) z); values = rw (ne_eqb _ _ z) }

pub served-refused : (c : Call) (bs st : List ℕ) → ((served c bs st).number ≡ accepted → ⊥) → Unchanged (served c bs st) bs st
unfolding served
served-refused c bs st z = refused_by c bs st (decode bs) z

-- 20 for bytes of another length
pub served_other_length : (c : Call) (bs st : List ℕ) → (length bs ≡ desk_bytes → ⊥) → served c bs st ≡ unread bs st
unfolding served
served_other_length c bs st z = ap (served_by c bs st) (decode-none bs z)

pub list_other_length : (bs : List ℕ) → (length bs ≡ desk_bytes → ⊥) → served_list bs ≡ unread bs []
unfolding served_list
list_other_length bs z = ap (listed_by bs) (decode-none bs z)

-- 20 for bytes that spell no sound desk
refusal-unread : (a : Asked) (bs : List ℕ) (k : Kept) → answered bs (record { kept = k; answer = refusal_of a }) ≡ unread bs k.store
refusal-unread (to_open kind declared) bs k = refl
refusal-unread (to_feed piece) bs k = refl
refusal-unread to_start bs k = refl
refusal-unread (to_finish f) bs k = refl
refusal-unread (to_take count) bs k = refl
refusal-unread to_kill bs k = refl
refusal-unread to_close bs k = refl
refusal-unread to_tell bs k = refl

pub served_unsound : (c : Call) (bs st : List ℕ) (d : Desk) → decode bs ≡ Some d → sound d ≡ false → served c bs st ≡ unread bs st
unfolding served
served_unsound c bs st d h s = ap (served_by c bs st) h ∙ ap (answered bs) (unsound c (kept d st) s) ∙ refusal-unread c.asked bs (kept d st)

pub list_unsound : (bs : List ℕ) (d : Desk) → decode bs ≡ Some d → sound d ≡ false → served_list bs ≡ unread bs []
unfolding served_list
list_unsound bs d h s = ap (listed_by bs) h ∙ rw (lists_unsound d s)

-- a call over bytes that spell a desk comes to what the call on the desk comes to
pub served-fine : (c : Call) (bs st : List ℕ) (d : Desk) → decode bs ≡ Some d → Fine d → NarrowCall c → AsMade (served c bs st) (make c (kept d st))
unfolding served
served-fine c bs st d e f h =
    let g = make-fine c (kept d st) h f in
    rw e
    (record {
      number = refl;
      values = refl;
      desk =
          split (eqb (number_in (make c (kept d st)).answer) accepted)
          (λ t. rw t (decode-encode (make c (kept d st)).kept.desk g.eight g.narrow))
          (λ t. rw t (e ∙ ap (λ (k : Kept). Some k.desk) (sym (make-stays c (kept d st) (eqb-false _ _ t)))));
      store = refl;
    })

pub served-made : (c : Call) (d : Desk) (st : List ℕ) → NarrowCall c → Fine d → AsMade (served c (encode d) st) (make c (kept d st))
served-made c d st h f = served-fine c (encode d) st d (decode-encode d f.eight f.narrow) f h

pub served-spelt : (c : Call) (bs st : List ℕ) (d : Desk) → Bytes bs → decode bs ≡ Some d → NarrowCall c → AsMade (served c bs st) (make c (kept d st))
served-spelt c bs st d b e h = served-fine c bs st d e (spelt-fine bs d b e) h

-- a call that is not lent the store is served with []: it answers and leaves what it does with any store, which stays
makes-apart : (a : Asked) (n : ℕ) (d : Desk) (st : List ℕ) → lends_store a ≡ false → makes a n (kept d st) ≡ record { kept = kept (makes a n (kept d [])).kept.desk st; answer = (makes a n (kept d [])).answer }
unfolding makes
makes-apart (to_open kind declared) n d st z = refl
makes-apart (to_feed piece) n d st z = absurd (true≢false z)
makes-apart to_start n d st z = refl
makes-apart (to_finish f) n d st z = refl
makes-apart (to_take count) n d st z = refl
makes-apart to_kill n d st z = refl
makes-apart to_close n d st z = refl
makes-apart to_tell n d st z = refl

apart_by : (c : Call) (bs st : List ℕ) (o : Option Desk) → lends_store c.asked ≡ false → served_by c bs st o ≡ with_store st (served_by c bs [] o)
apart_by c bs st None z = refl
apart_by c bs st (Some d) z = ap (answered bs) (makes-apart c.asked c.named d st z)

pub served-apart : (c : Call) (bs st : List ℕ) → lends_store c.asked ≡ false → served c bs st ≡ with_store st (served c bs [])
unfolding served
served-apart c bs st z = apart_by c bs st (decode bs) z
