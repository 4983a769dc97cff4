-- Inside the code's contracts alone: nobody needs to believe this page.
--   KindOf kind r               r is the type with this number, or 26 for a number above 6
--   made m r                    what the code answers to a move of the record r: the record after, or 25 or 27
--   made_new number kind declared    what it answers to open: the new record, or 26
use Rattle.std.specs.Prelude.{ℕ, ◌≡◌, ◌<◌, cond, Result, Ok, Err, MatchResult}
use Rattle.paper.specs.declared.Refusal.{Refusal}
use Rattle.paper.specs.declared.Refusal.TheVariants.{NotAllowed, OpenWrong, AmountWrong}
use Rattle.desk_records.specs.declared.Kind.{Kind}
use Rattle.desk_records.specs.declared.Record.{Record}
use Rattle.desk_records.specs.Record.{kind_number, action, suits}
use Rattle.desk_records.specs.Moves.{Move, opening}

abbrev pub KindOf : ℕ → Result Kind Refusal → Type 0
KindOf kind r = MatchResult r (λ k. kind_number k ≡ kind) (λ e. (e ≡ OpenWrong) × (action < kind))

abbrev pub made : Move → Record → Result Record Refusal
made m r = cond (m.allowed r) (cond (m.fits r) (Ok (m.next r)) (Err AmountWrong)) (Err NotAllowed)

abbrev pub made_new : ℕ → ℕ → ℕ → Result Record Refusal
made_new number kind declared = cond (suits kind declared) (Ok (opening number kind declared)) (Err OpenWrong)
