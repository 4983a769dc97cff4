-- Acceptance means that the move is made: of an accepted call, what there is of its number afterwards is what the table of moves says (`accepted-opens`,
-- `accepted-moves`, `accepted-feeds`), and what there is of every other number stays (Swapping's `own_story`).
-- Assumes a desk of eight records and any store.
use Prim.Native.Nat.{ℕ}
use mathlib.Core.Path.{◌≡◌}
use mathlib.Core.List.{List, [], ◌++◌}
use lib.ListN.{length}
use borrow.Author.Tests.{eq-eqb}
use Rattle.paper.specs.Limits.{desk_most}
use Rattle.paper.specs.Refusals.{accepted}
use Rattle.desk_records.specs.Moves.{Move, Moves, opening, feeding, starting, finishing, taking, killing, closing}
use Rattle.desk_records.proofs.Moving.{feeding_safe, starting_safe, finishing_safe, taking_safe, killing_safe, closing_safe}
use Rattle.desk.proofs.Settling.{full-fed}
use Rattle.desk_laws.specs.View.{GoodDesk, Kept, see}
use Rattle.desk_laws.specs.State.{Asked, to_open, to_feed, to_start, to_finish, to_take, to_kill, to_close, to_tell, call, number_in, Done, makes}
use Rattle.desk_laws.specs.Refusing.{MovesBy, Ready, Admitted, Takes, opens, moves, tells_known, tells_unknown}
use Rattle.desk_laws.proofs.Putting.{seen}
use Rattle.desk_laws.proofs.ByNumber.{call-moves}
use Rattle.desk_laws.proofs.Opening.{open-here}
use Rattle.desk_laws.proofs.Feeding.{feed_adds}
use Rattle.desk_laws.proofs.Refusing.{accepted_exactly}

takes_admitted : (a : Asked) (n : ℕ) (s : Kept) (x : Done) → Takes a n s x → Admitted a n s
takes_admitted a n s x (opens kind declared p b g y t z e) = g
takes_admitted a n s x (moves m p r b g y v e) = g
takes_admitted a n s x (tells_known p b g y e) = g
takes_admitted a n s x (tells_unknown b g y e) = g

module _ (a : Asked) (n : ℕ) (s : Kept) (l : length s.desk.records ≡ desk_most) (h : number_in (makes a n s).answer ≡ accepted) where
  ready : Ready a s
  ready = (takes_admitted a n s (makes a n s) ((accepted_exactly (call n a) s l).0 h)).ready

  good : GoodDesk s.desk
  good = record { eight = l; right = ready.desk }

-- "open: number, type and declared as the call says, received and due 0"; it has no bytes yet
pub accepted-opens : (n kind declared : ℕ) (s : Kept) → length s.desk.records ≡ desk_most → number_in (makes (to_open kind declared) n s).answer ≡ accepted
    → see n (makes (to_open kind declared) n s).kept ≡ seen (opening n kind declared) []
unfolding makes
accepted-opens n kind declared s l h = rw (eq-eqb _ _ h) at (open-here n kind declared s.desk (good (to_open kind declared) n s l h) s.store)

-- "the bytes are kept after those already received"
pub accepted-feeds : (n : ℕ) (piece : List ℕ) (s : Kept) → length s.desk.records ≡ desk_most → number_in (makes (to_feed piece) n s).answer ≡ accepted
    → (see n (makes (to_feed piece) n s).kept).bytes ≡ (see n s).bytes ++ piece
unfolding makes
accepted-feeds n piece s l h =
    feed_adds s.desk (good (to_feed piece) n s l h) s.store (eq-eqb _ _ (ready (to_feed piece) n s l h).store) n piece h

-- every call that moves a known operation moves it as the table says
module _ (n : ℕ) (m : Move) (s : Kept) (l : length s.desk.records ≡ desk_most) where
  pub accepted-moves : (a : Asked) → MovesBy a m → number_in (makes a n s).answer ≡ accepted → Moves m (see n s).entry (see n (makes a n s).kept).entry
  unfolding makes
  accepted-moves (to_open kind declared) b h = absurd b
  accepted-moves (to_feed piece) b h =
      let e = full-fed s.desk s.store n piece (eq-eqb _ _ (ready (to_feed piece) n s l h).store) in
      rw (b, e) (call-moves n (feeding (length piece)) (feeding_safe (length piece)) s.desk (good (to_feed piece) n s l h) (rw e at h))
  accepted-moves to_start b h = rw b (call-moves n starting starting_safe s.desk (good to_start n s l h) h)
  accepted-moves (to_finish f) b h = rw b (call-moves n (finishing f) (finishing_safe f) s.desk (good (to_finish f) n s l h) h)
  accepted-moves (to_take count) b h = rw b (call-moves n (taking count) (taking_safe count) s.desk (good (to_take count) n s l h) h)
  accepted-moves to_kill b h = rw b (call-moves n killing killing_safe s.desk (good to_kill n s l h) h)
  accepted-moves to_close b h = rw b (call-moves n closing closing_safe s.desk (good to_close n s l h) h)
  accepted-moves to_tell b h = absurd b
