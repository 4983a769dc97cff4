-- What a caller that keeps a desk as bytes may rely on.
--   Unchanged s bs st    nothing lent has changed, and no value is told
--   NarrowCall c         the call's numbers fit the fields that they go into, as what C passes does
--   Fine d               eight records, each of whose numbers fits its field, as in every struct
--   AsMade s x           a call over the bytes of a desk came to what the call on the desk comes to
--   lends_store a         the call is lent the store; with_store st s: s, with another store
--   shown n bs st        what the desk that the bytes spell, with the store, shows of a number
--   EitherServed f g     two calls over the same bytes and store, made in either order
use Rattle.std.specs.Prelude.{ℕ, ◌^◌, ◌<◌, ◌≡◌, Bool, true, false, List, [], length, Option, None, Some}
use Rattle.paper.specs.Limits.{desk_most}
use Rattle.desk.specs.declared.Desk.{Desk}
use Rattle.desk_records.specs.declared.Finish.TheVariants.{Failed, Good}
use Rattle.desk_laws.specs.View.{Seen, see}
use Rattle.desk_laws.specs.State.{Asked, to_open, to_feed, to_start, to_finish, to_take, to_kill, to_close, to_tell, Call, number_in, Done}
use Rattle.desk_bytes.specs.Bytes.{AllNarrow, decode}
use Rattle.desk_calls.specs.Served.{Served, told_by, served}

-- "A refusal changes nothing lent"
pub record Unchanged (s : Served) (bs st : List ℕ) : Type 0 where
  pub desk : s.desk ≡ bs
  pub store : s.store ≡ st
  pub values : s.values ≡ []

-- 16, 8 and 32 bits
abbrev pub NarrowAsked : Asked → ℕ → Type 0
NarrowAsked (to_open kind declared) n = (n < 256 ^ 2) × (kind < 256 ^ 1) × (declared < 256 ^ 4)
NarrowAsked (to_feed piece) n = Unit {0}
NarrowAsked to_start n = Unit {0}
NarrowAsked (to_finish Failed) n = Unit {0}
NarrowAsked (to_finish (Good due)) n = due < 256 ^ 4
NarrowAsked (to_take count) n = Unit {0}
NarrowAsked to_kill n = Unit {0}
NarrowAsked to_close n = Unit {0}
NarrowAsked to_tell n = Unit {0}

abbrev pub NarrowCall : Call → Type 0
NarrowCall c = NarrowAsked c.asked c.named

pub record Fine (d : Desk) : Type 0 where
  pub eight : length d.records ≡ desk_most
  pub narrow : AllNarrow d.records

pub record AsMade (s : Served) (x : Done) : Type 0 where
  pub number : s.number ≡ number_in x.answer
  pub values : s.values ≡ told_by x.answer
  pub desk : decode s.desk ≡ Some x.kept.desk
  pub store : s.store ≡ x.kept.store

-- "Nothing else changes the store": feed alone is lent it
abbrev pub lends_store : Asked → Bool
lends_store (to_open kind declared) = false
lends_store (to_feed piece) = true
lends_store to_start = false
lends_store (to_finish f) = false
lends_store (to_take count) = false
lends_store to_kill = false
lends_store to_close = false
lends_store to_tell = false

abbrev pub with_store : List ℕ → Served → Served
with_store st s = record { number = s.number; desk = s.desk; store = st; values = s.values }

abbrev pub shown_by : ℕ → List ℕ → Option Desk → Option Seen
shown_by n st None = None
shown_by n st (Some d) = Some (see n (record { desk = d; store = st }))

abbrev pub shown : ℕ → List ℕ → List ℕ → Option Seen
shown n bs st = shown_by n st (decode bs)

-- a call made on what another has left
abbrev pub afterwards : Served → Call → Served
afterwards s c = served c s.desk s.store

-- Demand 3 for callers that keep bytes: "made in either order each call gets the same answer, and afterwards every number has the same record and
-- the same received bytes". The answer is the number with the values that are told.
pub record EitherServed (f g : Call) (bs st : List ℕ) : Type 0 where
  pub first : (afterwards (served g bs st) f).number ≡ (served f bs st).number
  pub first_values : (afterwards (served g bs st) f).values ≡ (served f bs st).values
  pub second : (afterwards (served f bs st) g).number ≡ (served g bs st).number
  pub second_values : (afterwards (served f bs st) g).values ≡ (served g bs st).values
  pub after : (n : ℕ) → shown n (afterwards (served f bs st) g).desk (afterwards (served f bs st) g).store ≡ shown n (afterwards (served g bs st) f).desk (afterwards (served g bs st) f).store
