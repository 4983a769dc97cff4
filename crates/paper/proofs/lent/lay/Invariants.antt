-- `paper::lent::lay`: the values before i are laid into the row.
use Rattle.std.proofs.Common.{◌≡◌, take}
use Rattle.paper.specs.Lending.{laid}
use Rattle.paper.proofs.lent.lay.Given as goal

abbrev pub invariant-loop-i : goal.invariant-loop-i
invariant-loop-i g l = l.row ≡ laid (take l.i l.values) l.initial.row
