-- `dictionary::children::child_named` meets its contract: the first child with the name.
-- Where a length differs the goal doesn't show the name that was read, so its lemma is given by hand, its premises by `search`.
-- Assumes nothing.
use Rattle.std.proofs.Common.{rules}
use Rattle.dictionary.proofs.Asking.{looking, look_other, own-long}
use Rattle.dictionary.proofs.children.child_named.Goals as goal

pub first_child-first-requires : goal.first_child-first-requires
first_child-first-requires c = search (looking, rules)

pub child_count-requires : goal.child_count-requires
child_count-requires c = search (looking, rules)

pub siblings-init : goal.siblings-init
siblings-init c = search (looking, rules)

pub siblings-preserved-then-own-text : goal.siblings-preserved-then-own-text
siblings-preserved-then-own-text c = look_other _ _ _ _ _ (search rules) (search rules) (λ e. search (own-long, c.if-own-text.true, rules))

pub siblings-preserved : goal.siblings-preserved
siblings-preserved c = search (looking, rules)

pub returns-in-siblings : goal.returns-in-siblings
returns-in-siblings c = search (looking, rules)

pub returns : goal.returns
returns c = search (looking, rules)
