-- Document 01, "The desk's states": one record.
--   head .. action            the seven types
--   inactive .. abandoned     the eight states
--   kind_number, state_number  the numbers of the code's names for them
--   empty                     the record of an empty place
--   between a n b             n is a to b
--   suits kind declared       an operation of this type may declare so many bytes
--   sound_record r             r may stand on a sound desk; it is made of one test for each rule of the paper:
--                             else_zero, declared_sound, state_sound, received_sound, due_sound
use Rattle.std.specs.Prelude.{ℕ, Bool, ◌&&◌, ◌||◌, cond, ltb, leb, eqb}
use Rattle.paper.specs.Limits.{declared_most}
use Rattle.desk_records.specs.declared.Record.{Record}
use Rattle.desk_records.specs.declared.Kind.{Kind}
use Rattle.desk_records.specs.declared.Kind.TheVariants as kinds
use Rattle.desk_records.specs.declared.State.{State}
use Rattle.desk_records.specs.declared.State.TheVariants as states

-- "Types 0 to 6: head, read, create, delete, update, replace, action."
abbrev pub head : ℕ
head = 0

abbrev pub read : ℕ
read = 1

abbrev pub create : ℕ
create = 2

abbrev pub delete : ℕ
delete = 3

abbrev pub update : ℕ
update = 4

abbrev pub replace : ℕ
replace = 5

abbrev pub action : ℕ
action = 6

-- "States are 002's: inactive 0, needs input 1, triggered 2, running 3, have results 4, completed 5, failed 6, abandoned 7."
abbrev pub inactive : ℕ
inactive = 0

abbrev pub needs_input : ℕ
needs_input = 1

abbrev pub triggered : ℕ
triggered = 2

abbrev pub running : ℕ
running = 3

abbrev pub have_results : ℕ
have_results = 4

abbrev pub completed : ℕ
completed = 5

abbrev pub failed : ℕ
failed = 6

abbrev pub abandoned : ℕ
abandoned = 7

abbrev pub kind_number : Kind → ℕ
kind_number kinds.Head = head
kind_number kinds.Read = read
kind_number kinds.Create = create
kind_number kinds.Delete = delete
kind_number kinds.Update = update
kind_number kinds.Replace = replace
kind_number kinds.Action = action

abbrev pub state_number : State → ℕ
state_number states.Inactive = inactive
state_number states.NeedsInput = needs_input
state_number states.Triggered = triggered
state_number states.Running = running
state_number states.HaveResults = have_results
state_number states.Completed = completed
state_number states.Failed = failed
state_number states.Abandoned = abandoned

-- "empty places are all 0"
abbrev pub empty : Record
empty = record { number = 0; kind = 0; state = inactive; declared = 0; received = 0; due = 0 }

abbrev pub between : ℕ → ℕ → ℕ → Bool
between a n b = leb a n && leb n b

-- "Head, read and delete declare 0 bytes"
abbrev pub declares_none : ℕ → Bool
declares_none kind = eqb kind head || eqb kind read || eqb kind delete

-- "create, update, replace 1 to 4,096"
abbrev pub declares_some : ℕ → Bool
declares_some kind = eqb kind create || eqb kind update || eqb kind replace

-- "action 0 to 4,096"
abbrev pub declares_any : ℕ → Bool
declares_any kind = eqb kind action

-- 26 for "type above 6, or length wrong for the type": a type above 6 suits no length.
unfoldable pub suits : ℕ → ℕ → Bool
suits kind declared =
    declares_none kind && eqb declared 0
    || declares_some kind && between 1 declared declared_most
    || declares_any kind && between 0 declared declared_most

-- "number (16 bits, 0 for an empty place, all else then 0)"
unfoldable pub else_zero : Record → Bool
else_zero r = eqb r.kind 0 && eqb r.state 0 && eqb r.declared 0 && eqb r.received 0 && eqb r.due 0

-- "in the others types and declared bytes are as above"
unfoldable pub declared_sound : Record → Bool
declared_sound r = suits r.kind r.declared

-- "states are 1 to 7"
unfoldable pub state_sound : Record → Bool
state_sound r = between needs_input r.state abandoned

-- "received is below declared in 1, equal to it in 2 to 6 and at most it in 7"
unfoldable pub received_sound : Record → Bool
received_sound r =
    cond (eqb r.state needs_input) (ltb r.received r.declared)
    (cond (eqb r.state abandoned) (leb r.received r.declared)
    (eqb r.received r.declared))

-- "due is at least 1 in 4 and otherwise 0"
unfoldable pub due_sound : Record → Bool
due_sound r = cond (eqb r.state have_results) (leb 1 r.due) (eqb r.due 0)

-- "empty places are all 0, and in the others .."
unfoldable pub sound_record : Record → Bool
sound_record r = cond (eqb r.number 0) (else_zero r) (declared_sound r && state_sound r && received_sound r && due_sound r)
