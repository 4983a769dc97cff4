-- `part` meets its contract: it is one of the parts that `split` gives.
-- Assumes nothing.
use Rattle.std.proofs.Common.{◌≡◌, ◌==◌, List, ℕ, Option, Some, None, Bor, rules, ap}
use Rattle.std.specs.Option.{option_map, unwrap_or}
use Rattle.std.proofs.lemmas.Iterator.Splits.{YieldsList-from_slice_split}
use Rattle.std.proofs.lemmas.Iterator.Consumers.{nth_from_yields_List}
use Rattle.bench_lines.proofs.fields.part.Goals as goal

shown : (r : Option (Bor (List ℕ))) (o : Option (List ℕ)) (d : Bor (List ℕ)) → option_map (λ x. x.now) r ≡ o → (unwrap_or r d).now ≡ unwrap_or o d.now
shown None o d e = ap (λ p. unwrap_or p d.now) e
shown (Some x) o d e = ap (λ p. unwrap_or p d.now) e

pub returns : goal.returns
returns c =
    let met =
    nth_from_yields_List _ _ c.args.k c.nth.ensures.ran
    (YieldsList-from_slice_split _ (λ b. b == c.args.x) c.args.s.now c.split.ensures.rest c.split.ensures.done c.split.ensures.closure (λ x b q k. search rules)) in
    rw c.unwrap_or.ensures (shown c.nth.result _ _ met)
