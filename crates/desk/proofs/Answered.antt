-- Two calls on a desk with one operation, by computation: a start moves its record as the table says, and a feed's bytes go behind those received.
-- Assumes nothing.
use Prim.Native.Nat.{ℕ, ◌+◌}
use mathlib.Core.Path.{◌≡◌, refl}
use Rattle.paper.specs.Limits.{declared_most}
use Rattle.paper.specs.Refusals.{accepted}
use Rattle.desk_records.specs.Record.{create, needs_input, triggered, running, suits, else_zero, declared_sound, state_sound, received_sound, due_sound, sound_record}
use Rattle.desk_records.specs.Moves.{starting}
use Rattle.desk.specs.declared.Desk.{Desk}
use Rattle.desk.specs.Desk.{place, alone, sound_records, sound, put, fresh_desk}
use Rattle.desk.specs.Calls.{call_number, called, started, kept_from}

-- the operation 7 in the second place, which creates from five bytes
abbrev with7 : ℕ → ℕ → Desk
with7 state received =
    put fresh_desk 1 (record { number = 7; kind = create; state = state; declared = 5; received = received; due = 0 })

pub start-moves : started (with7 triggered 5) 7 ≡ record { desk = with7 running 5; number = accepted }
unfolding called call_number starting place alone sound sound_records sound_record suits else_zero declared_sound state_sound received_sound due_sound
start-moves = refl

pub feed_behind : kept_from (with7 needs_input 3) 7 ≡ declared_most + 3
unfolding place
feed_behind = refl
