-- "a desk that ignores calls, which swaps perfectly (demand 3 rests on demand 2's state table)": whatever it answers, it changes nothing.
--   ignores x     what it answers, by x, and leaves
--   ignoring x    as a kind of calls (swapping/specs/Calls)
--   says_one x     an answer for each call, whatever is kept; a desk that refuses everything is one of these
--   says_right     the desk's own answer
use Rattle.std.specs.Prelude.{◌≡◌, Bool, length}
use Rattle.paper.specs.Limits.{desk_most}
use Rattle.swapping.specs.Calls.{Calls}
use Rattle.desk.specs.Desk.{sound}
use Rattle.desk_laws.specs.View.{Kept, Seen, see}
use Rattle.desk_laws.specs.State.{Call, Answer, Done, make, vacant, opens_of, full_store}

abbrev pub ignores : (Call → Kept → Answer) → Call → Kept → Done
ignores x c s = record { kept = s; answer = x c s }

abbrev pub ignoring : (Call → Kept → Answer) → Calls
ignoring x = record {
  Kept = Kept;
  Call = Call;
  Answer = Answer;
  Seen = Seen;
  Frame = Bool;
  named = λ c. c.named;
  opens = λ c. opens_of c.asked;
  answer = λ c k. (ignores x c k).answer;
  next = λ c k. (ignores x c k).kept;
  see = see;
  frame = full_store;
  vacant = λ k. vacant k.desk.records;
  Whole = λ k. length k.desk.records ≡ desk_most;
  sound = λ k. sound k.desk;
}

abbrev pub says_one : (Call → Answer) → Call → Kept → Answer
says_one x c s = x c

abbrev pub says_right : Call → Kept → Answer
says_right c s = (make c s).answer
