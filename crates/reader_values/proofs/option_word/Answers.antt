-- `reader_values::option_word` meets its contract: an option's number, which fills the value, and its name in quotes.
-- Assumes nothing.
use Rattle.std.proofs.Common.{rules, sym, ap, ◌∙◌}
use Rattle.std.specs.Result.{result_ok}
use Rattle.reader_values.proofs.Scalars.{enum_holds, option-row}
use Rattle.reader_values.proofs.option_word.Goals as goal

pub child_numbered-requires-clause-row_in : goal.child_numbered-requires-clause-row_in
child_numbered-requires-clause-row_in c = search (enum_holds, rules)

pub name_long-requires : goal.name_long-requires
name_long-requires c = option-row c.args.d.now c.args.row c.requires.row c.requires.is_enum _ _ (sym c.child_numbered.ensures ∙ c.ok_or.ensures.ok_part ∙ ap result_ok c.in_ok-option.was)
