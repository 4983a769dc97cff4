-- `dictionary::children::child_numbered` meets its contract: the child with a number stands at that position.
-- Assumes nothing.
use Rattle.std.proofs.Common.{rules}
use Rattle.dictionary.proofs.Asking.{numbering}
use Rattle.dictionary.proofs.children.child_numbered.Goals as goal

pub child_count-requires : goal.child_count-requires
child_count-requires c = search (numbering, rules)

pub first_child-requires : goal.first_child-requires
first_child-requires c = search (numbering, rules)

pub returns-then-number-child_count : goal.returns-then-number-child_count
returns-then-number-child_count c = search (numbering, rules)

pub returns-else-number-child_count : goal.returns-else-number-child_count
returns-else-number-child_count c = search (numbering, rules)
