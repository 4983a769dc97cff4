-- Inside the code's contracts alone: nobody needs to believe this page.
-- What the contracts of the functions in src/ say, where a definition does not say it.
--   admitted d n      what every call that names an operation tests first: 20, 21
--   reached d n       what a call that names a known operation tests first: 20, 21, 24; and the operation's place
--   Changed by d n r e    a call on a known operation, whose step answers by `by`, was answered r and left the desk e
--   Sounding d i      how far the loop of sound has come
use Rattle.std.specs.Prelude.{ℕ, ◌≡◌, cond, drop, get_or, eqb, Result, Ok, Err, MatchResult}
use Rattle.paper.specs.declared.Refusal.{Refusal}
use Rattle.paper.specs.declared.Refusal.TheVariants.{NotSound, NumberZero, NoSuchNumber}
use Rattle.desk_records.specs.declared.Record.{Record}
use Rattle.desk_records.specs.Record.{empty}
use Rattle.desk.specs.declared.Desk.{Desk}
use Rattle.desk.specs.Desk.{place, has, sound, sound_records, put}

abbrev pub admitted : Desk → ℕ → Result (Unit {0}) Refusal
admitted d n = cond (sound d) (cond (eqb n 0) (Err NumberZero) (Ok tt)) (Err NotSound)

abbrev pub reached : Desk → ℕ → Result ℕ Refusal
reached d n = cond (sound d) (cond (eqb n 0) (Err NumberZero) (cond (has n d) (Ok (place n d.records)) (Err NoSuchNumber))) (Err NotSound)

-- what is left of the records decides
abbrev pub Sounding : Desk → ℕ → Type 0
Sounding d i = sound_records d.records ≡ sound_records (drop i d.records)

-- what is left where the step answered x: the record after it, or its refusal and the desk as it was
abbrev pub Stepped : Desk → ℕ → Result Record Refusal → Result (Unit {0}) Refusal → Desk → Type 0
Stepped d p (Ok next) r e = (r ≡ Ok tt) × (e ≡ put d p next)
Stepped d p (Err k) r e = (r ≡ Err k) × (e ≡ d)

pub record Changed (by : Record → Result Record Refusal → Type 0) (d : Desk) (n : ℕ) (r : Result (Unit {0}) Refusal) (e : Desk) : Type 0 where
  pub stepped :
      MatchResult (reached d n)
      (λ p. (x : Result Record Refusal) × by (get_or d.records p empty) x × Stepped d p x r e)
      (λ k. (r ≡ Err k) × (e ≡ d))
