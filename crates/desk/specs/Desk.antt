-- Document 01, "The desk's states": the eight records together.
--   place n rs       the lowest place whose record has the number n; place 0 is the lowest empty place
--   alone n rs       n is 0, or no record has it
--   sound_records rs  the records are those of a sound desk
--   sound d          the desk is sound
--   has n d          some place has the number n; has 0 d: a place is empty
--   record_of n d     the record of the number n, or the empty one
--   put d p r        the desk with the record r in the place p
--   fresh_desk        eight empty places
use Rattle.std.specs.Prelude.{ℕ, suc, Bool, true, ◌&&◌, ◌||◌, cond, List, [], ◌∷◌, length, get_or, set, replicate, ltb, leb, eqb}
use Rattle.paper.specs.Limits.{desk_most}
use Rattle.desk_records.specs.declared.Record.{Record}
use Rattle.desk.specs.declared.Desk.{Desk}
use Rattle.desk_records.specs.Record.{empty, sound_record}

-- As many as there are records, where none has it. "The lowest empty place is used, one freed earlier included."
unfoldable pub place : ℕ → List Record → ℕ
place n [] = 0
place n (r ∷ rs) = cond (eqb r.number n) 0 (suc (place n rs))

-- "no two nonzero numbers are equal": each is alone, none after it is the same
unfoldable pub alone : ℕ → List Record → Bool
alone n rs = eqb n 0 || leb (length rs) (place n rs)

-- "A desk is sound exactly when no two nonzero numbers are equal, empty places are all 0, and in the others .."
unfoldable pub sound_records : List Record → Bool
sound_records [] = true
sound_records (r ∷ rs) = sound_record r && alone r.number rs && sound_records rs

unfoldable pub sound : Desk → Bool
sound d = sound_records d.records

-- 22 for "number in use", 24 for "no such number"; 23 for "all 8 places taken" where no place has the number 0
abbrev pub has : ℕ → Desk → Bool
has n d = ltb (place n d.records) desk_most

-- "for an unknown number state 0 and zeros"
abbrev pub record_of : ℕ → Desk → Record
record_of n d = get_or d.records (place n d.records) empty

-- "one element replaced by each call"
abbrev pub put : Desk → ℕ → Record → Desk
put d p r = record { records = set d.records p r }

-- "empty places are all 0"
abbrev pub fresh_desk : Desk
fresh_desk = record { records = replicate desk_most empty }
