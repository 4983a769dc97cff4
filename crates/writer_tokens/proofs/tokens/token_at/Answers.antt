-- `writer_tokens::tokens::token_at` meets its contract: the end, a sign, a string or a word.
-- Assumes nothing.
use Rattle.std.proofs.Common.{tests, arith}
use Rattle.text.specs.Scanning.{token_at}
use Rattle.writer_tokens.proofs.Lexing.{scanned}
use Rattle.writer_tokens.proofs.tokens.token_at.Goals as goal

pub returns-in-Some : goal.returns-in-Some
unfolding token_at
returns-in-Some c = scanned _ _ _ (grind (arith, tests))

pub returns-in-Some-eq34 : goal.returns-in-Some-eq34
unfolding token_at
returns-in-Some-eq34 c = scanned _ _ _ (grind (arith, tests))

pub returns-in-Some-2 : goal.returns-in-Some-2
unfolding token_at
returns-in-Some-2 c = scanned _ _ _ (grind (arith, tests))

pub returns-in-None : goal.returns-in-None
unfolding token_at
returns-in-None c = scanned _ _ _ (grind (arith, tests))
