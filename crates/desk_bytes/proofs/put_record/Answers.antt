-- `desk_bytes::put_record` meets its contract.
-- Assumes nothing.
use Rattle.std.proofs.Common.{rules}
use Rattle.desk_bytes.proofs.Encoding.{puts}
use Rattle.desk_bytes.proofs.put_record.Goals as goal

pub put_lowest-requires : goal.put_lowest-requires
put_lowest-requires c = search (puts, rules)

pub put_lowest-requires-2 : goal.put_lowest-requires-2
put_lowest-requires-2 c = search (puts, rules)

pub put_lowest-requires-3 : goal.put_lowest-requires-3
put_lowest-requires-3 c = search (puts, rules)

pub put_lowest-requires-4 : goal.put_lowest-requires-4
put_lowest-requires-4 c = search (puts, rules)

pub put_lowest-requires-5 : goal.put_lowest-requires-5
put_lowest-requires-5 c = search (puts, rules)

pub put_lowest-requires-6 : goal.put_lowest-requires-6
put_lowest-requires-6 c = search (puts, rules)

pub returns : goal.returns
returns c = search (puts, rules)
