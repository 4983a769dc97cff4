-- Document 01, "What a refusal says" and "The desk's states": what every call on an operation answers and leaves, as the tables say it. Each line says what
-- holds of the desk, and of the lines that are tested before it that they don't; no search for a place and no order of tests stands here.
--   Stands n d, Lowest n d p    some place has the number n; p is the lowest such place. The number 0 is an empty place's
--   Opens, MovesBy, Tells       what a call asks: to open with this type and length; to move a known operation so; to tell its counts
--   Ready, Admitted             20 is passed; 20 and 21 are
--   Line a n s k                20 to 27: when the number k is given
--   Takes a n s x               0: when it is given, and what is there then
--   Answers c s x               the call c on s is answered so, and leaves that: a line with its refusal, or acceptance
--   Obeys f                     f answers every call so
--   ListLine d k                20 and 0, of list
--   desk_answer k                a desk's answer as the table has it: number, place and count
use Rattle.std.specs.Prelude.{ℕ, ◌+◌, ◌*◌, ◌<◌, ◌≡◌, true, false, List, length, get_or}
use Rattle.std.proofs.Math.Seq.{paste}
use Rattle.paper.specs.Limits.{desk_most, declared_most, store_bytes}
use Rattle.paper.specs.Refusals.{accepted, not_sound, number_zero, in_use, all_taken, no_such_number, not_allowed, open_wrong, amount_wrong}
use Rattle.paper.specs.Refusal as Paper
use Rattle.desk_records.specs.declared.Record.{Record}
use Rattle.desk_records.specs.Record.{empty, suits}
use Rattle.desk_records.specs.Moves.{Move, Moves, opening, feeding, starting, finishing, taking, killing, closing}
use Rattle.desk.specs.declared.Desk.{Desk}
use Rattle.desk.specs.Desk.{sound, put}
use Rattle.desk.specs.Calls.{telling}
use Rattle.desk_laws.specs.View.{Kept}
use Rattle.desk_laws.specs.State.{Asked, to_open, to_feed, to_start, to_finish, to_take, to_kill, to_close, to_tell, Call, Answer, number, counts, Done}

abbrev pub record_at : Desk → ℕ → Record
record_at d p = get_or d.records p empty

-- 22 for "number in use", 24 for "no such number"; 23 for "all 8 places taken" where the number 0 stands in none
pub record Stands (n : ℕ) (d : Desk) : Type 0 where
  pub at : ℕ
  pub within : at < desk_most
  pub names : (record_at d at).number ≡ n

-- "The lowest empty place is used, one freed earlier included."
pub record Lowest (n : ℕ) (d : Desk) (p : ℕ) : Type 0 where
  pub within : p < desk_most
  pub names : (record_at d p).number ≡ n
  pub first : (q : ℕ) → q < p → (record_at d q).number ≡ n → ⊥

abbrev pub Opens : Asked → ℕ → ℕ → Type 0
Opens (to_open kind declared) k l = (k ≡ kind) × (l ≡ declared)
Opens (to_feed piece) k l = ⊥
Opens to_start k l = ⊥
Opens (to_finish f) k l = ⊥
Opens (to_take count) k l = ⊥
Opens to_kill k l = ⊥
Opens to_close k l = ⊥
Opens to_tell k l = ⊥

abbrev pub MovesBy : Asked → Move → Type 0
MovesBy (to_open kind declared) m = ⊥
MovesBy (to_feed piece) m = m ≡ feeding (length piece)
MovesBy to_start m = m ≡ starting
MovesBy (to_finish f) m = m ≡ finishing f
MovesBy (to_take count) m = m ≡ taking count
MovesBy to_kill m = m ≡ killing
MovesBy to_close m = m ≡ closing
MovesBy to_tell m = ⊥

abbrev pub Tells : Asked → Type 0
Tells (to_open kind declared) = ⊥
Tells (to_feed piece) = ⊥
Tells to_start = ⊥
Tells (to_finish f) = ⊥
Tells (to_take count) = ⊥
Tells to_kill = ⊥
Tells to_close = ⊥
Tells to_tell = Unit {0}

-- "or the store isn't 32,768 bytes": feed alone is lent it
abbrev pub StoreRight : Asked → Kept → Type 0
StoreRight (to_open kind declared) s = Unit {0}
StoreRight (to_feed piece) s = length s.store ≡ store_bytes
StoreRight to_start s = Unit {0}
StoreRight (to_finish f) s = Unit {0}
StoreRight (to_take count) s = Unit {0}
StoreRight to_kill s = Unit {0}
StoreRight to_close s = Unit {0}
StoreRight to_tell s = Unit {0}

-- "the bytes are kept after those already received, in that place's 4,096 bytes"; "Nothing else changes the store."
abbrev pub store_after : Asked → Kept → ℕ → List ℕ
store_after (to_open kind declared) s p = s.store
store_after (to_feed piece) s p = paste s.store (declared_most * p + (record_at s.desk p).received) piece (length piece)
store_after to_start s p = s.store
store_after (to_finish f) s p = s.store
store_after (to_take count) s p = s.store
store_after to_kill s p = s.store
store_after to_close s p = s.store
store_after to_tell s p = s.store

-- of status the counts too, which are zeros in a refusal
abbrev pub refusal_with : Asked → ℕ → Answer
refusal_with (to_open kind declared) k = number k
refusal_with (to_feed piece) k = number k
refusal_with to_start k = number k
refusal_with (to_finish f) k = number k
refusal_with (to_take count) k = number k
refusal_with to_kill k = number k
refusal_with to_close k = number k
refusal_with to_tell k = counts (telling k empty)

pub record Ready (a : Asked) (s : Kept) : Type 0 where
  pub desk : sound s.desk ≡ true
  pub store : StoreRight a s

pub record Admitted (a : Asked) (n : ℕ) (s : Kept) : Type 0 where
  pub ready : Ready a s
  pub nonzero : n ≡ 0 → ⊥

abbrev pub done : Desk → List ℕ → Answer → Done
done d st x = record { kept = record { desk = d; store = st }; answer = x }

module _ (a : Asked) (n : ℕ) (s : Kept) where
  -- "The desk tests 20, 21, then for open 22, 26, 23; for others 24, 25, 27."
  pub data Line (k : ℕ) : Type 0 where
    line_20 : k ≡ not_sound → (Ready a s → ⊥) → Line k
    line_21 : k ≡ number_zero → Ready a s → n ≡ 0 → Line k
    line_22 : (kind declared : ℕ) → k ≡ in_use → Opens a kind declared → Admitted a n s → Stands n s.desk → Line k
    line_26 : (kind declared : ℕ) → k ≡ open_wrong → Opens a kind declared → Admitted a n s → (Stands n s.desk → ⊥) → suits kind declared ≡ false → Line k
    line_23 : (kind declared : ℕ) → k ≡ all_taken → Opens a kind declared → Admitted a n s → (Stands n s.desk → ⊥) → suits kind declared ≡ true → (Stands 0 s.desk → ⊥) → Line k
    line_24 : (m : Move) → k ≡ no_such_number → MovesBy a m → Admitted a n s → (Stands n s.desk → ⊥) → Line k
    line_25 : (m : Move) (p : ℕ) → k ≡ not_allowed → MovesBy a m → Admitted a n s → Lowest n s.desk p → m.allowed (record_at s.desk p) ≡ false → Line k
    line_27 : (m : Move) (p : ℕ) → k ≡ amount_wrong → MovesBy a m → Admitted a n s → Lowest n s.desk p
        → m.allowed (record_at s.desk p) ≡ true → m.fits (record_at s.desk p) ≡ false → Line k

  -- "each call takes one and hands back the next"; "status: state, received and due counts; for an unknown number state 0 and zeros"
  pub data Takes (x : Done) : Type 0 where
    opens : (kind declared p : ℕ) → Opens a kind declared → Admitted a n s → (Stands n s.desk → ⊥) → suits kind declared ≡ true → Lowest 0 s.desk p
        → x ≡ done (put s.desk p (opening n kind declared)) s.store (number accepted) → Takes x
    moves : (m : Move) (p : ℕ) (r : Record) → MovesBy a m → Admitted a n s → Lowest n s.desk p → Moves m (record_at s.desk p) r
        → x ≡ done (put s.desk p r) (store_after a s p) (number accepted) → Takes x
    tells_known : (p : ℕ) → Tells a → Admitted a n s → Lowest n s.desk p → x ≡ record { kept = s; answer = counts (telling accepted (record_at s.desk p)) } → Takes x
    tells_unknown : Tells a → Admitted a n s → (Stands n s.desk → ⊥) → x ≡ record { kept = s; answer = counts (telling accepted empty) } → Takes x

-- "A refusal changes nothing lent"
pub data Answers (c : Call) (s : Kept) (x : Done) : Type 0 where
  refuses : (k : ℕ) → Line c.asked c.named s k → x ≡ record { kept = s; answer = refusal_with c.asked k } → Answers c s x
  takes : Takes c.asked c.named s x → Answers c s x

-- "Its records are eight in an array passed whole."
abbrev pub Obeys : (Call → Kept → Done) → Type 0
Obeys f = (c : Call) (s : Kept) → length s.desk.records ≡ desk_most → Answers c s (f c s)

-- List names no operation, so that 20 is its only refusal.
pub data ListLine (d : Desk) (k : ℕ) : Type 0 where
  list_20 : k ≡ not_sound → sound d ≡ false → ListLine d k
  list_0 : k ≡ accepted → sound d ≡ true → ListLine d k

-- The table has place 0 in each of the lines 20 to 27; "its count and length are 0"; "Acceptance is number 0, place 0". So of a desk's call the number alone tells.
abbrev pub desk_answer : ℕ → Paper.Answer
desk_answer k = record { number = k; place = 0; count = 0; length = 0 }
