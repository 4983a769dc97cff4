-- `checker_members::Rows::name` meets its contract: a row's name is a part of the lent bytes.
-- Assumes nothing.
use Rattle.std.proofs.Common.{rules}
use Rattle.dictionary.proofs.Naming.{name-inside}
use Rattle.checker_members.proofs.Members.{name-part}
use Rattle.checker_members.proofs.Rows.name.Goals as goal

pub slice_bounds-result-end : goal.slice_bounds-result-end
slice_bounds-result-end c =
    let rows = c.args.self.now in
    let inside = name-inside rows.d.now rows.n rows.named c.args.row c.requires in
    search rules

pub returns : goal.returns
returns c = search (name-part, rules)
