-- `checker_children::families_fine` meets its contract: the children of every row are fine.
-- Assumes nothing.
use Rattle.std.proofs.Common.{◌≡◌}
use Rattle.paper.specs.Tests.{Passing}
use Rattle.dictionary.specs.Accepts.{children_fine}
use Rattle.checker_children.proofs.families_fine.Given as goal

abbrev pub invariant-loop-row : goal.invariant-loop-row
invariant-loop-row l = record {
  same_bytes : l.rows.d.now ≡ l.d;
  same_rows : l.rows.n ≡ l.n;
  passing : Passing (children_fine l.rows.d.now) l.n l.row;
}
