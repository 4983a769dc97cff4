-- `writer_tokens::tokens::word_at` meets its contract: each word, or a number.
-- Assumes nothing.
use Rattle.std.proofs.Common.{rules, tests, arith}
use Rattle.text.specs.Tokens.{word_byte}
use Rattle.text.specs.Scanning.{word_at, numeral_at}
use Rattle.writer_tokens.proofs.Lexing.{part, worded, spelt}
use Rattle.writer_tokens.proofs.tokens.word_at.Goals as goal

pub returns-in-null : goal.returns-in-null
unfolding word_at numeral_at
returns-in-null c = worded _ _ _ _ (c.run_end-q.ensures.same word_byte (λ c b p. search (rules, tests))) (search rules) (grind (arith, tests, spelt, part))

pub returns-in-true : goal.returns-in-true
unfolding word_at numeral_at
returns-in-true c = worded _ _ _ _ (c.run_end-q.ensures.same word_byte (λ c b p. search (rules, tests))) (search rules) (grind (arith, tests, spelt, part))

pub returns-in-false : goal.returns-in-false
unfolding word_at numeral_at
returns-in-false c = worded _ _ _ _ (c.run_end-q.ensures.same word_byte (λ c b p. search (rules, tests))) (search rules) (grind (arith, tests, spelt, part))

pub returns-in_default : goal.returns-in_default
unfolding word_at numeral_at
returns-in_default c = worded _ _ _ _ (c.run_end-q.ensures.same word_byte (λ c b p. search (rules, tests))) (search rules) (grind (arith, tests, spelt, part))

pub returns-in_default-2 : goal.returns-in_default-2
unfolding word_at numeral_at
returns-in_default-2 c = worded _ _ _ _ (c.run_end-q.ensures.same word_byte (λ c b p. search (rules, tests))) (search rules) (grind (arith, tests, spelt, part))

pub returns-in_default-3 : goal.returns-in_default-3
unfolding word_at numeral_at
returns-in_default-3 c = worded _ _ _ _ (c.run_end-q.ensures.same word_byte (λ c b p. search (rules, tests))) (search rules) (grind (arith, tests, spelt, part))
