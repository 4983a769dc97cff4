-- A call made on the bytes of a desk, one lemma for each return.
-- Assumes nothing.
use Rattle.std.proofs.Common.{◌≡◌, ℕ, Bool, cond, List, [], ◌∷◌, length, Option, Some, None, Result, Ok, Err, refl, sym, ap, ◌∙◌}
use lib.Dec.{eqb}
use borrow.Author.Tests.{eq-eqb}
use Rattle.std.specs.Option.{ok_or}
use Rattle.paper.specs.declared.Refusal.{Refusal}
use Rattle.paper.specs.declared.Refusal.TheVariants.{NotSound}
use Rattle.paper.specs.Refusals.{accepted}
use Rattle.paper.specs.Refusal.{number_of}
use Rattle.paper.specs.Lending.{laid}
use Rattle.paper.proofs.Lending.{laid_none}
use Rattle.paper.proofs.Refusing.{refused}
use Rattle.desk_records.specs.declared.Finish.{Finish}
use Rattle.desk.specs.declared.Desk.{Desk}
use Rattle.desk.specs.declared as code
use Rattle.desk.specs.Calls.{Moved, moved, opened, started, finished, taken, killed, closed, telling_of, told, listing_of, listed, Fed}
use Rattle.desk_laws.specs.State.{to_open, to_feed, to_start, to_finish, to_take, to_kill, to_close, to_tell, Call, call, number, on_desk, makes, make}
use Rattle.desk_laws.proofs.Putting.{kept}
use Rattle.desk_bytes.specs.Bytes.{desk_bytes, encode, decode}
use Rattle.desk_bytes.specs.Coded.{Encoded}
use Rattle.desk_bytes.proofs.Codec.{decode-some}
use Rattle.desk_calls.specs.Served.{answered, served_by, served, served_list}
use Rattle.desk_calls.specs.Met.{Lent, LentStore, LentRow, Written}

-- keep
module _ (bs : List ℕ) (d : Desk) where
  pub keep_not : (a : Result (Unit {0}) Refusal) (k : Refusal) → a ≡ Err k → Written bs (moved d a) (number_of k) bs
  keep_not a k e = rw e (record { number = refl; bytes = rw (refused k) refl })

  pub keep_done : (a : Result (Unit {0}) Refusal) (x : Unit {0}) → a ≡ Ok x → (b : Bool) (bs' : List ℕ) → Encoded d bs b bs' → Written bs (moved d a) accepted bs'
  keep_done a x e b bs' w = rw e (record { number = refl; bytes = w.left ∙ ap (λ t. cond t (encode d) bs) w.good })

pub ruleset keeps = (keep_not, keep_done)

-- read
module _ (bs : List ℕ) where
  read_none : (k : Refusal) → Err k ≡ ok_or (decode bs) NotSound → (decode bs ≡ None) × (k ≡ NotSound)
  read_none k = go (decode bs)
    where
      go : (o : Option Desk) → Err k ≡ ok_or o NotSound → (o ≡ None) × (k ≡ NotSound)
      go None e = (refl, cc)
      go (Some d) e = cc

  read_some : (d : Desk) → Ok d ≡ ok_or (decode bs) NotSound → decode bs ≡ Some d
  read_some d = go (decode bs)
    where
      go : (o : Option Desk) → Ok d ≡ ok_or o NotSound → o ≡ Some d
      go None e = cc
      go (Some x) e = cc

-- what a call that moves the desk answers, where the store goes along
pub record Makes (c : Call) (d : Desk) (st : List ℕ) (m : Moved) (st' : List ℕ) : Type 0 where
  pub same : make c (kept d st) ≡ record { kept = kept m.desk st'; answer = number m.number }

module _ (d : Desk) (n : ℕ) (m : Moved) where
  pub makes-open : (kind declared : ℕ) → m ≡ opened d n kind declared → Makes (call n (to_open kind declared)) d [] m []
  unfolding makes
  makes-open kind declared e = record { same = ap (on_desk (kept d [])) (sym e) }

  pub makes-start : m ≡ started d n → Makes (call n to_start) d [] m []
  unfolding makes
  makes-start e = record { same = ap (on_desk (kept d [])) (sym e) }

  pub makes-finish : (f : Finish) → m ≡ finished d n f → Makes (call n (to_finish f)) d [] m []
  unfolding makes
  makes-finish f e = record { same = ap (on_desk (kept d [])) (sym e) }

  pub makes-take : (count : ℕ) → m ≡ taken d n count → Makes (call n (to_take count)) d [] m []
  unfolding makes
  makes-take count e = record { same = ap (on_desk (kept d [])) (sym e) }

  pub makes-kill : m ≡ killed d n → Makes (call n to_kill) d [] m []
  unfolding makes
  makes-kill e = record { same = ap (on_desk (kept d [])) (sym e) }

  pub makes-close : m ≡ closed d n → Makes (call n to_close) d [] m []
  unfolding makes
  makes-close e = record { same = ap (on_desk (kept d [])) (sym e) }

  pub makes-feed : (st piece st' : List ℕ) → Fed d st n piece m st' → Makes (call n (to_feed piece)) d st m st'
  unfolding makes
  makes-feed st piece st' f = record { same = sym (rw (f.moved, f.stored)) }

-- any call, over bytes and a store
module _ (c : Call) (bs st : List ℕ) where
  pub feed-unread : (k : Refusal) → Err k ≡ ok_or (decode bs) NotSound → LentStore (served c bs st) (number_of k) bs st
  unfolding served
  feed-unread k e = let r = read_none bs k e in rw (r.0, r.1) (record { number = refl; desk = refl; store = refl })

  module _ (d : Desk) (e : Ok d ≡ ok_or (decode bs) NotSound) where
    serves : served c bs st ≡ answered bs (make c (kept d st))
    unfolding served
    serves = ap (served_by c bs st) (read_some bs d e)

    pub feed-served : (m : Moved) (st' : List ℕ) → Makes c d st m st' → (r : ℕ) (bs' : List ℕ) → Written bs m r bs' → LentStore (served c bs st) r bs' st'
    feed-served m st' a r bs' w =
        let l = eq-eqb (length bs) desk_bytes (decode-some bs d (read_some bs d e)).0 in
        let z : bs' ≡ cond (eqb m.number 0) (encode m.desk) bs = w.bytes ∙ rw l refl in
        rw (serves, a.same) (record { number = w.number; desk = z; store = refl })

-- any call that is not lent the store
module _ (c : Call) (bs : List ℕ) where
  pub call-unread : (k : Refusal) → Err k ≡ ok_or (decode bs) NotSound → Lent (served c bs []) (number_of k) bs
  call-unread k e = let l = feed-unread c bs [] k e in record { number = l.number; desk = l.desk }

  pub call-served : (d : Desk) → Ok d ≡ ok_or (decode bs) NotSound → (m : Moved) → Makes c d [] m [] → (r : ℕ) (bs' : List ℕ) → Written bs m r bs' → Lent (served c bs []) r bs'
  call-served d e m a r bs' w = let l = feed-served c bs [] d e m [] a r bs' w in record { number = l.number; desk = l.desk }

pub ruleset serving = (feed-unread, feed-served, call-unread, call-served, makes-open, makes-feed, makes-start, makes-finish, makes-take, makes-kill, makes-close)

-- status and list, of which nothing is written back
module _ (bs row : List ℕ) where
  module _ (n : ℕ) where
    pub status-unread : (k : Refusal) → Err k ≡ ok_or (decode bs) NotSound → LentRow (served (call n to_tell) bs []) row (number_of k) row
    unfolding served
    status-unread k e = let r = read_none bs k e in rw (r.0, r.1) (record { number = refl; values = sym (laid_none row) })

    module _ (d : Desk) (e : Ok d ≡ ok_or (decode bs) NotSound) where
      pub status-refused : (k : Refusal) → telling_of (Err k) ≡ told d n → LentRow (served (call n to_tell) bs []) row (number_of k) row
      unfolding served makes
      status-refused k f = rw (read_some bs d e, ← f, refused k) (record { number = refl; values = sym (laid_none row) })

      pub status-done : (t : code.Told.Told) → telling_of (Ok t) ≡ told d n → (now : List ℕ) → now ≡ laid (t.state ∷ t.received ∷ t.due ∷ []) row
          → LentRow (served (call n to_tell) bs []) row accepted now
      unfolding served makes
      status-done t f now g = rw (read_some bs d e, ← f) (record { number = refl; values = g })

  pub list-unread : (k : Refusal) → Err k ≡ ok_or (decode bs) NotSound → LentRow (served_list bs) row (number_of k) row
  unfolding served_list
  list-unread k e = let r = read_none bs k e in rw (r.0, r.1) (record { number = refl; values = sym (laid_none row) })

  module _ (d : Desk) (e : Ok d ≡ ok_or (decode bs) NotSound) where
    pub list-refused : (k : Refusal) → listing_of (Err k) ≡ listed d → LentRow (served_list bs) row (number_of k) row
    unfolding served_list
    list-refused k f = rw (read_some bs d e, ← f, refused k) (record { number = refl; values = sym (laid_none row) })

    pub list-done : (ns : List ℕ) → listing_of (Ok ns) ≡ listed d → (now : List ℕ) → now ≡ laid ns row → LentRow (served_list bs) row accepted now
    unfolding served_list
    list-done ns f now g = rw (read_some bs d e, ← f) (record { number = refl; values = g })

pub ruleset telling = (status-unread, status-refused, status-done, list-unread, list-refused, list-done)
