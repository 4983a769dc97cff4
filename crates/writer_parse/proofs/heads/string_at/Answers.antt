-- `writer_parse::heads::string_at` meets its contract: an option at an enum's row, a string at any other.
-- Assumes nothing.
use Rattle.std.proofs.Common.{◌≡◌, false, eqb, rules, arith, tests}
use Rattle.dictionary.specs.Formats.{enum_form}
use Rattle.dictionary.specs.Rows.{kind}
use Rattle.writer_parse.proofs.Heading.{stringing}
use Rattle.writer_parse.proofs.heads.string_at.Goals as goal

pub format_of-requires : goal.format_of-requires
format_of-requires c = search (stringing, rules)

pub returns-else-eq : goal.returns-else-eq
returns-else-eq c =
    let n : eqb (kind c.args.d.now c.args.row) enum_form ≡ false = grind (arith, tests) in
    search (stringing, rules)
