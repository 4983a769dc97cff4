-- `checker_members::Rows::members_fine` meets its contract: all children sit well, those settled before included.
-- Assumes nothing.
use Rattle.std.proofs.Common.{◌≡◌}
use Rattle.paper.specs.Tests.{Passing}
use Rattle.dictionary.specs.Accepts.{member}
use Rattle.checker_members.proofs.Rows.members_fine.Given as goal

abbrev pub invariant-loop-p : goal.invariant-loop-p
invariant-loop-p l = record {
  same_bytes : l.self.d ≡ l.fn.self.d;
  same_rows : l.self.n ≡ l.fn.self.n;
  passing : Passing (member l.self.d.now l.first) l.count l.p;
}
