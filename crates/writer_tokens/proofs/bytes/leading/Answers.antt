-- `writer_tokens::bytes::leading` meets its contract.
-- Assumes nothing.
use Rattle.std.proofs.Common.{rules, ◌∙◌, tests}
use Rattle.std.proofs.lemmas.Iterator.{YieldsList-from_slice}
use Rattle.std.proofs.lemmas.Iterator.Search.{YieldsList-from_take_while}
use Rattle.std.proofs.lemmas.Iterator.Consumers.{count_from_yields_List}
use Rattle.std.proofs.lemmas.List.Folds.{length-prefix_len}
use Rattle.writer_tokens.proofs.Runs.{leading-prefix}
use Rattle.writer_tokens.proofs.bytes.leading.Goals as goal

pub returns-clause-same : goal.returns-clause-same
returns-clause-same g c P h =
    let e = count_from_yields_List c.take_while.result _ c.count.ensures.ran (YieldsList-from_take_while _ P (YieldsList-from_slice c.args.w.now cc) c.take_while.ensures.closure c.take_while.ensures.done (λ x b q k. (search (rules, tests), search (rules, tests, h)))) in
    e ∙ length-prefix_len P c.args.w.now ∙ leading-prefix P c.args.w.now
