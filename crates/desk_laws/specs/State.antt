-- Calls made one after the other on a desk with its store: what demand 3 speaks of.
--   Asked, Call         what a call asks of an operation; a call is a number and what is asked of it. List names none
--   Answer, Done        what a call hands back: its whole answer, and the desk and store after it
--   number_in            the number in an answer
--   make c k            the call c, made on k
--   vacant, opens_of     how many places are empty; how many a call may fill
--   full_store           the store is as long as it should be
--   desk_calls           the calls as a kind of calls (swapping/specs/Calls): of it, `Touches`, `Either`, `Alike` and the rest speak
use Rattle.std.specs.Prelude.{ℕ, suc, ◌≡◌, Bool, cond, List, [], ◌∷◌, length, eqb}
use Rattle.paper.specs.Limits.{desk_most, store_bytes}
use Rattle.swapping.specs.Calls.{Calls}
use Rattle.desk_records.specs.declared.Record.{Record}
use Rattle.desk_records.specs.declared.Finish.{Finish}
use Rattle.desk.specs.Calls.{Moved}
use Rattle.desk.specs.Calls.{Told}
use Rattle.desk.specs.Desk.{sound}
use Rattle.desk.specs.Calls.{opened, fed, fed_store, started, finished, taken, killed, closed, told}
use Rattle.desk_laws.specs.View.{Kept, Seen, see}

-- "List names all operations and isn't among demand 3's calls."
pub data Asked : Type 0 where
  to_open : ℕ → ℕ → Asked
  to_feed : List ℕ → Asked
  to_start : Asked
  to_finish : Finish → Asked
  to_take : ℕ → Asked
  to_kill : Asked
  to_close : Asked
  to_tell : Asked

-- "two calls that each name one operation": the number 0 is a name too
pub record Call : Type 0 where
  pub named : ℕ
  pub asked : Asked

abbrev pub call : ℕ → Asked → Call
call n a = record { named = n; asked = a }

-- a number; of status the counts too
pub data Answer : Type 0 where
  number : ℕ → Answer
  counts : Told → Answer

abbrev pub number_in : Answer → ℕ
number_in (number n) = n
number_in (counts t) = t.number

pub record Done : Type 0 where
  pub kept : Kept
  pub answer : Answer

-- "Nothing else changes the store."
abbrev pub on_desk : Kept → Moved → Done
on_desk k m = record { kept = record { desk = m.desk; store = k.store }; answer = number m.number }

-- "each call takes one and hands back the next"
unfoldable pub makes : Asked → ℕ → Kept → Done
makes (to_open kind declared) n k = on_desk k (opened k.desk n kind declared)
makes (to_feed piece) n k = record {
  kept = record { desk = (fed k.desk k.store n piece).desk; store = fed_store k.desk k.store n piece };
  answer = number (fed k.desk k.store n piece).number;
}
makes to_start n k = on_desk k (started k.desk n)
makes (to_finish f) n k = on_desk k (finished k.desk n f)
makes (to_take count) n k = on_desk k (taken k.desk n count)
makes to_kill n k = on_desk k (killed k.desk n)
makes to_close n k = on_desk k (closed k.desk n)
makes to_tell n k = record { kept = k; answer = counts (told k.desk n) }

abbrev pub make : Call → Kept → Done
make c k = makes c.asked c.named k

-- "as many places empty beforehand as there are opens among the two"; a call to open counts, refused or not
unfoldable pub vacant : List Record → ℕ
vacant [] = 0
vacant (r ∷ rs) = cond (eqb r.number 0) (suc (vacant rs)) (vacant rs)

abbrev pub opens_of : Asked → ℕ
opens_of (to_open kind declared) = 1
opens_of (to_feed piece) = 0
opens_of to_start = 0
opens_of (to_finish f) = 0
opens_of (to_take count) = 0
opens_of to_kill = 0
opens_of to_close = 0
opens_of to_tell = 0

abbrev pub full_store : Kept → Bool
full_store k = eqb (length k.store) store_bytes

-- "every number has the same record and the same received bytes"; every call may ask whether the store is full, and none changes that
abbrev pub desk_calls : Calls
desk_calls = record {
  Kept = Kept;
  Call = Call;
  Answer = Answer;
  Seen = Seen;
  Frame = Bool;
  named = λ c. c.named;
  opens = λ c. opens_of c.asked;
  answer = λ c k. (make c k).answer;
  next = λ c k. (make c k).kept;
  see = see;
  frame = full_store;
  vacant = λ k. vacant k.desk.records;
  Whole = λ k. length k.desk.records ≡ desk_most;
  sound = λ k. sound k.desk;
}
