-- `reader_values::word_at` meets its contract: a scalar of each format.
-- Assumes nothing.
use Rattle.std.proofs.Common.{rules}
use Rattle.payload.specs.Values.{scalar_value}
use Rattle.reader_values.proofs.Scalars.{word_rules}
use Rattle.reader_values.proofs.word_at.Goals as goal

pub option_word-requires-clause-is_enum : goal.option_word-requires-clause-is_enum
option_word-requires-clause-is_enum c = search (word_rules, rules)

pub returns-in-Integer : goal.returns-in-Integer
unfolding scalar_value
returns-in-Integer c = rw c.in-Integer.is (c.integer_word.ensures.at_row c.args.d.now c.args.row)

pub returns-in-String : goal.returns-in-String
unfolding scalar_value
returns-in-String c = rw c.in-String.is (c.string_word.ensures.at_row c.args.d.now c.args.row)

pub returns-in_default : goal.returns-in_default
returns-in_default c = search (word_rules, rules)
