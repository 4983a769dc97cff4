-- `writer_tokens::tokens::skip` meets its contract: a byte above 32 is no space.
-- Assumes nothing.
use Rattle.std.proofs.Common.{◌<◌, slice_index_or}
use Rattle.writer_tokens.proofs.Runs.{no_space}
use Rattle.writer_tokens.proofs.tokens.skip.Goals as goal

pub returns-then-s-at-gt32 : goal.returns-then-s-at-gt32
returns-then-s-at-gt32 c = let above : 32 < slice_index_or c.args.s.now c.args.at 0 = c.if-s-at-gt32.true in no_space c.args.s.now c.args.at c.if-at-s.true above
