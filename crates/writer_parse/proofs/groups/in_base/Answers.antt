-- `writer_parse::groups::in_base` meets its contract: a row's format is looked up where the row lies.
-- Assumes nothing.
use Rattle.std.proofs.Common.{rules}
use Rattle.writer_parse.proofs.Grouping.{row_lies}
use Rattle.writer_parse.proofs.groups.in_base.Goals as goal

pub format_of-requires : goal.format_of-requires
format_of-requires c = search (row_lies, rules)
