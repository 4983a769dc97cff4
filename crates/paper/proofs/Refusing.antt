-- Every refusal has a number above 0.
-- Assumes nothing.
use Rattle.std.proofs.Common.{◌≡◌, false, refl}
use lib.Dec.{eqb}
use Rattle.paper.specs.declared.Refusal.{Refusal}
use Rattle.paper.specs.declared.Refusal.TheVariants.{DictionaryWrong, LengthWrong, HeaderDiffers, PastEnd, WidthWrong, NotKnown, GivenTwice, NotInBase, Misfit, ValueWrong, TooDeep, BudgetSpent, AfterRoot, NoRoom, BadText, NotSound, NumberZero, InUse, AllTaken, NoSuchNumber, NotAllowed, OpenWrong, AmountWrong}
use Rattle.paper.specs.Refusals.{accepted}
use Rattle.paper.specs.Refusal.{number_of}

pub refused : (k : Refusal) → eqb (number_of k) accepted ≡ false
refused k = elim k as (λ x. eqb (number_of x) accepted ≡ false) [
  | DictionaryWrong ↦ refl
  | LengthWrong ↦ refl
  | HeaderDiffers ↦ refl
  | PastEnd ↦ refl
  | WidthWrong ↦ refl
  | NotKnown ↦ refl
  | GivenTwice ↦ refl
  | NotInBase ↦ refl
  | Misfit ↦ refl
  | ValueWrong ↦ refl
  | TooDeep ↦ refl
  | BudgetSpent ↦ refl
  | AfterRoot ↦ refl
  | NoRoom ↦ refl
  | BadText ↦ refl
  | NotSound ↦ refl
  | NumberZero ↦ refl
  | InUse ↦ refl
  | AllTaken ↦ refl
  | NoSuchNumber ↦ refl
  | NotAllowed ↦ refl
  | OpenWrong ↦ refl
  | AmountWrong ↦ refl
]
