-- `desk_bytes::record_at` meets its contract.
-- Assumes nothing.
use Rattle.std.proofs.Common.{rules}
use Rattle.desk_bytes.proofs.Decoding.{decodes}
use Rattle.desk_bytes.proofs.record_at.Goals as goal

pub returns : goal.returns
returns c = search (decodes, rules)
