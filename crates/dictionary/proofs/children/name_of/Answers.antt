-- `dictionary::children::name_of` meets its contract: a row's name is a part of the lent bytes.
-- Assumes nothing.
use Rattle.std.proofs.Common.{rules}
use Rattle.dictionary.proofs.Asking.{asking}
use Rattle.dictionary.proofs.children.name_of.Goals as goal

pub name_length-long-requires : goal.name_length-long-requires
name_length-long-requires c = search (asking, rules)

pub returns-then-long-eq0 : goal.returns-then-long-eq0
returns-then-long-eq0 c = search (asking, rules)

pub name_offset-at-requires : goal.name_offset-at-requires
name_offset-at-requires c = search (asking, rules)

pub slice_bounds-result-end-2 : goal.slice_bounds-result-end-2
slice_bounds-result-end-2 c = search (asking, rules)

pub returns : goal.returns
returns c = search (asking, rules)
