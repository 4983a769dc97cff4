-- `reader_values::integer_word` meets its contract: 1 to 8 bytes, and no top byte that only repeats the sign.
-- Assumes nothing.
use Rattle.std.proofs.Common.{sym, ◌∙◌, arith}
use Rattle.reader_values.proofs.Scalars.{integer_is}
use Rattle.reader_values.proofs.integer_word.Goals as goal

pub returns : goal.returns
returns c =
    integer_is c.args.v.now c.integer_at.result c.decimal_length.result (omega arith) (omega arith) (sym c.sign_repeated.ensures ∙ c.if-sign_repeated.false) c.integer_at.ensures c.decimal_length.ensures
