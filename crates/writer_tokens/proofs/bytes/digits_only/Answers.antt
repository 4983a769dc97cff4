-- `writer_tokens::bytes::digits_only` meets its contract.
-- Assumes nothing.
use Rattle.std.proofs.Common.{rules, tests}
use Rattle.std.proofs.lemmas.Iterator.{YieldsList-from_slice}
use Rattle.std.proofs.lemmas.Iterator.Search.{all_from_yields_List}
use Rattle.numbers.specs.Decimal.{digit}
use Rattle.writer_tokens.proofs.Runs.{only-all}
use Rattle.writer_tokens.proofs.bytes.digits_only.Goals as goal

pub returns : goal.returns
returns c = only-all _ _ (all_from_yields_List digit _ _ _ c.all.ensures.ran (YieldsList-from_slice c.args.w.now cc) (λ x b q k. search (rules, tests)))
