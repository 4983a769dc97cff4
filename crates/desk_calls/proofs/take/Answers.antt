-- `desk_calls::take` meets its contract.
-- Assumes nothing.
use Rattle.std.proofs.Common.{rules}
use Rattle.desk_calls.proofs.Serving.{serving}
use Rattle.desk_calls.proofs.take.Goals as goal

pub returns : goal.returns
returns c = search (serving, rules, c.in_ok-read.ensures)
