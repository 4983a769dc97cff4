-- `writer_tokens::numerals::is_numeral` meets its contract: an integer before a fraction.
-- Assumes nothing.
use Rattle.std.proofs.Common.{◌≡◌, rules, tests, arith}
use Rattle.text.specs.Numerals.{leading, integer_byte, numeral}
use Rattle.writer_tokens.proofs.numerals.is_numeral.Goals as goal

pub returns-then-is_integral : goal.returns-then-is_integral
unfolding numeral
returns-then-is_integral c =
    let e : c.leading.result ≡ leading integer_byte c.args.w.now = c.leading.ensures.same integer_byte (λ c b p. search (rules, tests)) in
    grind (arith, tests)

pub returns-else-is_integral : goal.returns-else-is_integral
unfolding numeral
returns-else-is_integral c =
    let e : c.leading.result ≡ leading integer_byte c.args.w.now = c.leading.ensures.same integer_byte (λ c b p. search (rules, tests)) in
    grind (arith, tests)
