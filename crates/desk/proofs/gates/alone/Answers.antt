-- `desk::gates::alone` meets its contract.
-- Assumes nothing.
use Rattle.std.proofs.Common.{rules, tests, not}
use Rattle.std.proofs.lemmas.Iterator.{YieldsList-from_slice}
use Rattle.std.proofs.lemmas.Iterator.Search.{all_from_yields_List}
use Rattle.desk.proofs.Finding.{has_number, alone-zero, alone-all}
use Rattle.desk.proofs.gates.alone.Goals as goal

pub returns-then-number-eq0 : goal.returns-then-number-eq0
returns-then-number-eq0 c = search (alone-zero, rules)

pub returns-else-number-eq0 : goal.returns-else-number-eq0
returns-else-number-eq0 c =
    alone-all _ _ c.if-number-eq0.false _
    (all_from_yields_List (λ r. not (has_number c.args.number r)) _ _ _ c.all.ensures.ran (YieldsList-from_slice c.args.records.now cc) (λ x b q k. search (rules, tests)))
