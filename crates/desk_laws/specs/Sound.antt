-- Document 01, "The desk's states": its sentence on a sound desk and its sentence on types and lengths, place by place and without a test. That the tests
-- `sound` (desk/specs/Desk) and `suits` (desk_records/specs/Record) are exactly these is proved.
--   Declares kind declared    an operation of this type may declare so many bytes
--   Right r                   what soundness asks of the record of an operation
--   Apart d                   no two nonzero numbers are equal
--   Sound d                   the desk is sound
use Rattle.std.specs.Prelude.{ℕ, ◌<◌, ◌≤◌, ◌≡◌}
use Rattle.paper.specs.Limits.{desk_most, declared_most}
use Rattle.desk_records.specs.declared.Record.{Record}
use Rattle.desk_records.specs.Record.{head, read, create, delete, update, replace, action, needs_input, triggered, have_results, failed, abandoned, empty}
use Rattle.desk.specs.declared.Desk.{Desk}
use Rattle.desk_laws.specs.Refusing.{record_at}

-- "Head, read and delete declare 0 bytes; create, update, replace 1 to 4,096; action 0 to 4,096 (house)."
pub data Declares (kind declared : ℕ) : Type 0 where
  by_head : kind ≡ head → declared ≡ 0 → Declares kind declared
  by_read : kind ≡ read → declared ≡ 0 → Declares kind declared
  by_delete : kind ≡ delete → declared ≡ 0 → Declares kind declared
  by_create : kind ≡ create → 1 ≤ declared → declared ≤ declared_most → Declares kind declared
  by_update : kind ≡ update → 1 ≤ declared → declared ≤ declared_most → Declares kind declared
  by_replace : kind ≡ replace → 1 ≤ declared → declared ≤ declared_most → Declares kind declared
  by_action : kind ≡ action → declared ≤ declared_most → Declares kind declared

-- "types and declared bytes are as above, states are 1 to 7, received is below declared in 1, equal to it in 2 to 6 and at most it in 7, and due is at
-- least 1 in 4 and otherwise 0"
pub record Right (r : Record) : Type 0 where
  pub declares : Declares r.kind r.declared
  pub from_1 : needs_input ≤ r.state
  pub to_7 : r.state ≤ abandoned
  pub in_1 : r.state ≡ needs_input → r.received < r.declared
  pub in_2_to_6 : triggered ≤ r.state → r.state ≤ failed → r.received ≡ r.declared
  pub in_7 : r.state ≡ abandoned → r.received ≤ r.declared
  pub due_in_4 : r.state ≡ have_results → 1 ≤ r.due
  pub else_none : (r.state ≡ have_results → ⊥) → r.due ≡ 0

abbrev pub Apart : Desk → Type 0
Apart d =
    (p q : ℕ) → p < desk_most → q < desk_most → (p ≡ q → ⊥) → ((record_at d p).number ≡ 0 → ⊥) → (record_at d p).number ≡ (record_at d q).number → ⊥

-- "A desk is sound exactly when no two nonzero numbers are equal, empty places are all 0, and in the others .."
pub record Sound (d : Desk) : Type 0 where
  pub apart : Apart d
  pub empties : (p : ℕ) → p < desk_most → (record_at d p).number ≡ 0 → record_at d p ≡ empty
  pub others : (p : ℕ) → p < desk_most → ((record_at d p).number ≡ 0 → ⊥) → Right (record_at d p)
