-- `writer_judge::roots::root_sign` meets its contract: an object, an array, or another sign.
-- Assumes nothing.
use Rattle.std.proofs.Common.{rules}
use Rattle.writer_judge.proofs.Rooting.{root_signs}
use Rattle.writer_judge.proofs.roots.root_sign.Goals as goal

pub returns-then-c-opens-2 : goal.returns-then-c-opens-2
returns-then-c-opens-2 c = search (root_signs, rules)
