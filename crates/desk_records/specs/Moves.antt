-- Document 01, "The desk's states": the table of moves, on one record. No order of tests stands here; Calls has it.
--   opening n kind declared    the record that open makes
--   Move                       the records on which a call is allowed, those that its amount fits, and the record after
--   feeding count, starting, finishing outcome, taking n, killing, closing     the paper's six moves
--   Moves m r r'               the move m takes the record r to the record r'
use Rattle.std.specs.Prelude.{ℕ, ◌+◌, ◌-◌, ◌≡◌, Bool, true, cond, eqb}
use Rattle.desk_records.specs.declared.Record.{Record}
use Rattle.desk_records.specs.declared.Finish.{Finish}
use Rattle.desk_records.specs.declared.Finish.TheVariants.{Failed, Good}
use Rattle.desk_records.specs.Record.{needs_input, triggered, running, have_results, completed, failed, abandoned, empty, between}

-- "open: number, type and declared as the call says, received and due 0; state 1, or 2 where 0 bytes are declared."
unfoldable pub opening : ℕ → ℕ → ℕ → Record
opening n kind declared =
    record { number = n; kind = kind; state = cond (eqb declared 0) triggered needs_input; declared = declared; received = 0; due = 0 }

-- 25 for "call not allowed in this state"; 27 where the call's amount does not fit the record.
pub record Move : Type 0 where
  pub allowed : Record → Bool
  pub fits : Record → Bool
  pub next : Record → Record

-- number, type and declared stay as the call to open said
abbrev pub becomes : Record → ℕ → ℕ → ℕ → Record
becomes r state received due =
    record { number = r.number; kind = r.kind; state = state; declared = r.declared; received = received; due = due }

-- "feed in 1: .. received grows by their count; 2 once all are in." 27 for "piece empty or longer than declared less received".
unfoldable pub feeding : ℕ → Move
feeding count = record {
  allowed = λ r. eqb r.state needs_input;
  fits = λ r. between 1 count (r.declared - r.received);
  next = λ r. becomes r (cond (eqb (r.received + count) r.declared) triggered needs_input) (r.received + count) r.due;
}

-- "start: 2 to 3."
unfoldable pub starting : Move
starting = record {
  allowed = λ r. eqb r.state triggered;
  fits = λ r. true;
  next = λ r. becomes r running r.received r.due;
}

-- "to 4 with R due, or to 5 where R is 0"; and of take, "5 at none"
abbrev pub owing : ℕ → Record → Record
owing due r = becomes r (cond (eqb due 0) completed have_results) r.received due

-- "failed, which carries no R, to 6; good with R result bytes .. to 4 with R due, or to 5 where R is 0."
abbrev pub outcome : Finish → Record → Record
outcome Failed r = becomes r failed r.received r.due
outcome (Good due) r = owing due r

-- "finish from 3"
unfoldable pub finishing : Finish → Move
finishing f = record {
  allowed = λ r. eqb r.state running;
  fits = λ r. true;
  next = outcome f;
}

-- "take in 4: n fewer due; 5 at none." 27 for "n 0 or above due".
unfoldable pub taking : ℕ → Move
taking n = record {
  allowed = λ r. eqb r.state have_results;
  fits = λ r. between 1 n r.due;
  next = λ r. owing (r.due - n) r;
}

-- "kill: 1, 2, 3 or 4 to 7, due becomes 0."
unfoldable pub killing : Move
killing = record {
  allowed = λ r. between needs_input r.state have_results;
  fits = λ r. true;
  next = λ r. becomes r abandoned r.received 0;
}

-- "close: 5, 6 or 7, and the place is empty."
unfoldable pub closing : Move
closing = record {
  allowed = λ r. between completed r.state abandoned;
  fits = λ r. true;
  next = λ r. empty;
}

-- An operation moves so, or stays as it is.
pub record Moves (m : Move) (r r' : Record) : Type 0 where
  pub state : m.allowed r ≡ true
  pub amount : m.fits r ≡ true
  pub after : r' ≡ m.next r
