-- The table of moves in propositions: in which states each call is allowed, which amounts fit, and which state open makes first.
-- Assumes nothing.
use Prim.Native.Nat.{ℕ, ◌-◌, ◌≤◌}
use mathlib.Core.Path.{◌≡◌}
use mathlib.Core.Logic.{◌↔◌}
use mathlib.Core.Bool.{true}
use lib.Dec.{leb}
use borrow.Author.Tests.{eq-eqb, ne_eqb, eqb-true, leb-true, le-leb}
use Rattle.paper.proofs.Tests.{and_left, and_right, and_both}
use Rattle.desk_records.specs.declared.Record.{Record}
use Rattle.desk_records.specs.declared.Finish.{Finish}
use Rattle.desk_records.specs.Record.{needs_input, triggered, running, have_results, completed, abandoned, between}
use Rattle.desk_records.specs.Moves.{opening, feeding, starting, finishing, taking, killing, closing}

between_exactly : (a n b : ℕ) → (between a n b ≡ true) ↔ (a ≤ n) × (n ≤ b)
between_exactly a n b =
    (λ e. (leb-true _ _ (and_left (leb a n) (leb n b) e), leb-true _ _ (and_right (leb a n) (leb n b) e)), λ x. and_both _ _ (le-leb _ _ x.0) (le-leb _ _ x.1))

-- "state 1, or 2 where 0 bytes are declared"
pub open-first : (n kind declared : ℕ) → (declared ≡ 0 → ⊥) → (opening n kind declared).state ≡ needs_input
unfolding opening
open-first n kind declared z = rw (ne_eqb _ _ z)

pub open_nothing : (n kind declared : ℕ) → declared ≡ 0 → (opening n kind declared).state ≡ triggered
unfolding opening
open_nothing n kind declared z = rw (eq-eqb _ _ z)

module _ (r : Record) where
  -- "feed in 1"; 27 for "piece empty or longer than declared less received"
  pub feed-allowed : (count : ℕ) → ((feeding count).allowed r ≡ true) ↔ (r.state ≡ needs_input)
  unfolding feeding
  feed-allowed count = (eqb-true _ _, eq-eqb _ _)

  pub feed-fits : (count : ℕ) → ((feeding count).fits r ≡ true) ↔ (1 ≤ count) × (count ≤ r.declared - r.received)
  unfolding feeding
  feed-fits count = between_exactly 1 count (r.declared - r.received)

  -- "start: 2 to 3. finish from 3"
  pub start-allowed : (starting.allowed r ≡ true) ↔ (r.state ≡ triggered)
  unfolding starting
  start-allowed = (eqb-true _ _, eq-eqb _ _)

  pub finish-allowed : (f : Finish) → ((finishing f).allowed r ≡ true) ↔ (r.state ≡ running)
  unfolding finishing
  finish-allowed f = (eqb-true _ _, eq-eqb _ _)

  -- "take in 4"; 27 for "n 0 or above due"
  pub take-allowed : (n : ℕ) → ((taking n).allowed r ≡ true) ↔ (r.state ≡ have_results)
  unfolding taking
  take-allowed n = (eqb-true _ _, eq-eqb _ _)

  pub take-fits : (n : ℕ) → ((taking n).fits r ≡ true) ↔ (1 ≤ n) × (n ≤ r.due)
  unfolding taking
  take-fits n = between_exactly 1 n r.due

  -- "kill: 1, 2, 3 or 4 to 7"; "close: 5, 6 or 7"
  pub kill-allowed : (killing.allowed r ≡ true) ↔ (needs_input ≤ r.state) × (r.state ≤ have_results)
  unfolding killing
  kill-allowed = between_exactly needs_input r.state have_results

  pub close-allowed : (closing.allowed r ≡ true) ↔ (completed ≤ r.state) × (r.state ≤ abandoned)
  unfolding closing
  close-allowed = between_exactly completed r.state abandoned
