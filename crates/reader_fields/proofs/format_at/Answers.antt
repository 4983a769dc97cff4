-- `reader_fields::format_at` meets its contract: the format's name is that of its number.
-- Assumes nothing.
use Rattle.std.proofs.Common.{rules}
use Rattle.reader_fields.proofs.Fielding.{format_is}
use Rattle.reader_fields.proofs.format_at.Goals as goal

pub returns : goal.returns
returns c = search (format_is, rules)
