-- `writer_tokens::tokens::string_at` meets its contract: the run's end is a quote, the text's end, or a byte that no string has.
-- Assumes nothing.
use Rattle.std.proofs.Common.{◌≡◌, rules, tests, arith, ◌+◌}
use Rattle.payload.specs.Strings.{string_byte}
use Rattle.text.specs.Scanning.{string_at, past}
use Rattle.writer_tokens.proofs.tokens.string_at.Goals as goal

pub returns-in-Some-eq34 : goal.returns-in-Some-eq34
unfolding string_at
returns-in-Some-eq34 c =
    let e : c.run_end-q.result ≡ past string_byte c.args.s.now (c.args.at + 1) = search (rules, tests) in
    grind (arith, tests)

pub returns-in-Some : goal.returns-in-Some
unfolding string_at
returns-in-Some c =
    let e : c.run_end-q.result ≡ past string_byte c.args.s.now (c.args.at + 1) = search (rules, tests) in
    grind (arith, tests)

pub returns-in-None : goal.returns-in-None
unfolding string_at
returns-in-None c =
    let e : c.run_end-q.result ≡ past string_byte c.args.s.now (c.args.at + 1) = search (rules, tests) in
    grind (arith, tests)
