-- `writer::write` meets its contract: dictionary and length in that order, then the root.
-- Assumes nothing.
use Rattle.writer.proofs.Entering.{entries}
use Rattle.writer.proofs.write.Goals as goal

pub returns-then-not-accepts : goal.returns-then-not-accepts
returns-then-not-accepts c = search entries

pub written-requires : goal.written-requires
written-requires c = search entries

pub returns-then-text-lt-TEXT_LEAST : goal.returns-then-text-lt-TEXT_LEAST
returns-then-text-lt-TEXT_LEAST c = search (entries, c.then-text-lt-TEXT_LEAST.either)

pub returns : goal.returns
returns c = search entries
