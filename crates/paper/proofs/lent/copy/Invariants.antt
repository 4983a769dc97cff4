-- `paper::lent::copy`: the values before `at` are laid into the row.
use Rattle.std.proofs.Common.{◌≡◌, take}
use Rattle.paper.specs.Lending.{laid}
use Rattle.paper.proofs.lent.copy.Given as goal

abbrev pub invariant-loop-at : goal.invariant-loop-at
invariant-loop-at g l = l.row ≡ laid (take l.at l.values) l.initial.row
