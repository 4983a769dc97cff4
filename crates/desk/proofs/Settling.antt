-- What holds of the calls' definitions on any desk and store, sound or not: a refusal changes nothing, and a feed with a full store is a call like the others.
-- Assumes nothing.
use Prim.Native.Nat.{ℕ}
use mathlib.Core.Path.{◌≡◌, refl}
use mathlib.Core.Bool.{Bool, true, false}
use mathlib.Core.List.{List}
use lib.ListN.{length}
use lib.Dec.{eqb}
use borrow.Author.Tests.{ne_eqb}
use Rattle.paper.specs.Limits.{store_bytes}
use Rattle.paper.specs.Refusals.{accepted, not_sound}
use Rattle.desk_records.specs.Moves.{Move, feeding}
use Rattle.desk.specs.declared.Desk.{Desk}
use Rattle.desk.specs.Calls.{unless, opened, call_number, called, feed_number, fed, fed_store}

pub unless-passed : (t : Bool) (e : ℕ) (rest : Unit {0} → ℕ) → (e ≡ 0 → ⊥) → unless t e rest ≡ 0 → (t ≡ true) × (rest tt ≡ 0)
unless-passed true e rest z h = (refl, h)
unless-passed false e rest z h = absurd (z h)

-- "A refusal changes nothing lent"
pub open_stays : (n kind declared : ℕ) (d : Desk) → ((opened d n kind declared).number ≡ accepted → ⊥) → (opened d n kind declared).desk ≡ d
unfolding opened
open_stays n kind declared d z = rw (ne_eqb _ _ z)

pub call_stays : (d : Desk) (n : ℕ) (m : Move) → ((called d n m).number ≡ accepted → ⊥) → (called d n m).desk ≡ d
unfolding called
call_stays d n m z = rw (ne_eqb _ _ z)

module _ (d : Desk) (st : List ℕ) (n : ℕ) (piece : List ℕ) where
  pub feed-stays : ((fed d st n piece).number ≡ accepted → ⊥) → ((fed d st n piece).desk ≡ d) × (fed_store d st n piece ≡ st)
  unfolding fed fed_store
  feed-stays z = (rw (ne_eqb (feed_number d st n piece) accepted z), rw (ne_eqb (feed_number d st n piece) accepted z))

  -- 20 for a store of another length
  pub short-fed : eqb (length st) store_bytes ≡ false → fed d st n piece ≡ record { desk = d; number = not_sound }
  unfolding fed feed_number
  short-fed t = rw t

  pub short-store : eqb (length st) store_bytes ≡ false → fed_store d st n piece ≡ st
  unfolding fed_store feed_number
  short-store t = rw t

  -- with a right one, a call like the others on the desk
  pub full-fed : eqb (length st) store_bytes ≡ true → fed d st n piece ≡ called d n (feeding (length piece))
  unfolding fed feed_number called
  full-fed t = rw t

  pub full-number : eqb (length st) store_bytes ≡ true → feed_number d st n piece ≡ call_number d n (feeding (length piece))
  unfolding feed_number
  full-number t = rw t
