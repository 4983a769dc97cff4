-- `writer_judge::keys::fresh_key_at` meets its contract: an array's member has no name.
-- Assumes nothing.
use Rattle.std.proofs.Common.{rules}
use Rattle.writer_judge.proofs.Freshly.{membering}
use Rattle.writer_judge.proofs.keys.fresh_key_at.Goals as goal

pub returns-in-Array : goal.returns-in-Array
returns-in-Array c = search (membering, rules)

pub returns-in-Set : goal.returns-in-Set
returns-in-Set c = search (membering, rules)
