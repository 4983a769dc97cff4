-- The code's names for the numbers of the table (specs/Refusals), and what a call answers, as the table says it: "A refusal is a number and a place".
--   number_of k     the number of a refusal
--   Answer          what a call of the reader or the writer answers: a number, a place, a count and a length
--   told r          the answer that a result is: acceptance is number 0, place 0; a refusal's count and length are 0
use Rattle.std.specs.Prelude.{ℕ, Result, Ok, Err}
use Rattle.paper.specs.Refusals as table
use Rattle.paper.specs.declared.Refusal.{Refusal}
use Rattle.paper.specs.declared.Refusal.TheVariants as refusal
use Rattle.paper.specs.declared.Refused.{Refused}
use Rattle.paper.specs.declared.Done.{Done}

abbrev pub number_of : Refusal → ℕ
number_of refusal.DictionaryWrong = table.dictionary_wrong
number_of refusal.LengthWrong = table.length_wrong
number_of refusal.HeaderDiffers = table.header_differs
number_of refusal.PastEnd = table.past_end
number_of refusal.WidthWrong = table.width_wrong
number_of refusal.NotKnown = table.not_known
number_of refusal.GivenTwice = table.given_twice
number_of refusal.NotInBase = table.not_in_base
number_of refusal.Misfit = table.misfit
number_of refusal.ValueWrong = table.value_wrong
number_of refusal.TooDeep = table.too_deep
number_of refusal.BudgetSpent = table.budget_spent
number_of refusal.AfterRoot = table.after_root
number_of refusal.NoRoom = table.no_room
number_of refusal.BadText = table.bad_text
number_of refusal.NotSound = table.not_sound
number_of refusal.NumberZero = table.number_zero
number_of refusal.InUse = table.in_use
number_of refusal.AllTaken = table.all_taken
number_of refusal.NoSuchNumber = table.no_such_number
number_of refusal.NotAllowed = table.not_allowed
number_of refusal.OpenWrong = table.open_wrong
number_of refusal.AmountWrong = table.amount_wrong

pub record Answer : Type 0 where
  pub number : ℕ
  pub place : ℕ
  pub count : ℕ
  pub length : ℕ

abbrev pub told : Result Done Refused → Answer
told (Ok a) = record { number = table.accepted; place = 0; count = a.count; length = a.length }
told (Err k) = record { number = number_of k.refusal; place = k.place; count = 0; length = 0 }
