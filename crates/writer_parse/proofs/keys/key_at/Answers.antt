-- `writer_parse::keys::key_at` meets its contract: an array's member has no name.
-- Assumes nothing.
use Rattle.std.proofs.Common.{rules}
use Rattle.writer_parse.proofs.Keying.{keying}
use Rattle.writer_parse.proofs.keys.key_at.Goals as goal

pub first_child-requires : goal.first_child-requires
first_child-requires c = search (keying, rules)

pub returns-in-Array : goal.returns-in-Array
returns-in-Array c = search (keying, rules)

pub returns-in-Set : goal.returns-in-Set
returns-in-Set c = search (keying, rules)
