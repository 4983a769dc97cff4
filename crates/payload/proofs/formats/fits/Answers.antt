-- `payload::formats::fits` meets its contract: null by the nullable bit, all else by the row's own format.
-- Assumes nothing.
use Rattle.std.proofs.Common.{rules}
use Rattle.payload.proofs.Leaves.{row_inside}
use Rattle.payload.proofs.formats.fits.Goals as goal

pub takes_null-requires : goal.takes_null-requires
takes_null-requires c = search (row_inside, rules)

pub format_nibble-requires : goal.format_nibble-requires
format_nibble-requires c = search (row_inside, rules)
