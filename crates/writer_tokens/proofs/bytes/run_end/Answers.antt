-- `writer_tokens::bytes::run_end` meets its contract: the place comes from how many bytes lead what is left.
-- Assumes nothing.
use Rattle.text.specs.Scanning.{past}
use Rattle.writer_tokens.proofs.Grammar.{rest_from}
use Rattle.writer_tokens.proofs.bytes.run_end.Goals as goal

pub returns-clause-same : goal.returns-clause-same
unfolding past
returns-clause-same g c P h = rw (c.leading.ensures.same P h, rest_from c.args.s.now c.args.at)
