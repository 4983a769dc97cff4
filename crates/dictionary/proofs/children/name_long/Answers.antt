-- `dictionary::children::name_long` meets its contract: the length of a row's name.
-- Assumes nothing.
use Rattle.std.proofs.Common.{rules}
use Rattle.dictionary.proofs.Asking.{measuring}
use Rattle.dictionary.proofs.children.name_long.Goals as goal

pub name_length-requires : goal.name_length-requires
name_length-requires c = search (measuring, rules)

pub returns : goal.returns
returns c = search (measuring, rules)
