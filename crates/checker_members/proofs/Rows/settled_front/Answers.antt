-- `checker_members::Rows::settled_front` meets its contract: a marked child that has its number vouches for all its elders.
-- Assumes nothing.
use Rattle.std.proofs.Common.{rules}
use Rattle.checker_members.proofs.Members.{fronts}
use Rattle.checker_members.proofs.Rows.settled_front.Goals as goal

pub returns : goal.returns
returns c = search (fronts, rules)
