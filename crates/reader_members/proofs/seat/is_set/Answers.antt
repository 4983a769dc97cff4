-- `reader_members::seat::is_set` meets its contract.
-- Assumes nothing.
use Rattle.std.proofs.Common.{rules}
use Rattle.payload.proofs.Leaves.{row_inside}
use Rattle.reader_members.proofs.seat.is_set.Goals as goal

pub format_of-requires : goal.format_of-requires
format_of-requires c = search (row_inside, rules)
