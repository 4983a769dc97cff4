-- `reader_members::member::front_long` meets its contract.
-- Assumes nothing.
use Rattle.std.proofs.Common.{rules}
use Rattle.reader_members.proofs.Seating.{fronts}
use Rattle.reader_members.proofs.member.front_long.Goals as goal

pub returns-then-is_set : goal.returns-then-is_set
returns-then-is_set c = search (fronts, rules)

pub returns-else-is_set : goal.returns-else-is_set
returns-else-is_set c = search (fronts, rules)
