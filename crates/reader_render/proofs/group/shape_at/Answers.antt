-- `reader_render::group::shape_at` meets its contract.
-- Assumes nothing.
use Rattle.std.proofs.Common.{rules}
use Rattle.payload.proofs.Leaves.{group-inside}
use Rattle.reader_render.proofs.group.shape_at.Goals as goal

pub format_nibble-requires : goal.format_nibble-requires
format_nibble-requires c = search (group-inside, rules)
