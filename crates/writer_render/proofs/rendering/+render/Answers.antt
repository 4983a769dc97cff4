-- `writer_render::rendering::render` meets its contract: the front of a value, a group up to its members, each turn of the loop over these, and its end.
-- Assumes nothing. After the call of itself the facts that a lemma needs are listed, or handed to it: among all that is known there `search` runs out of steps.
use Rattle.std.proofs.Common.{rules}
use Rattle.writer_render.proofs.Laying.{value_rules, group_rules, key-some, key_holder, key_few, shallower, child-ready, lay-next, lay-end}
use Rattle.writer_render.proofs.rendering.+render.Goals as goal

pub put_leaf-requires-clause-has_room : goal.put_leaf-requires-clause-has_room
put_leaf-requires-clause-has_room t c = search (value_rules, rules)

pub returns-in-Leaf : goal.returns-in-Leaf
returns-in-Leaf t c = search (value_rules, rules)

pub offset_bounds-slots-from : goal.offset_bounds-slots-from
offset_bounds-slots-from t c = search (group_rules, rules)

pub bounds-slots-from : goal.bounds-slots-from
bounds-slots-from t c = search (group_rules, rules)

pub overflow_add-from : goal.overflow_add-from
overflow_add-from t c = search (group_rules, rules)

pub offset_bounds-slots-from-in-Many : goal.offset_bounds-slots-from-in-Many
offset_bounds-slots-from-in-Many t c = search (group_rules, rules)

pub bounds-slots-from-in-Many : goal.bounds-slots-from-in-Many
bounds-slots-from-in-Many t c = search (group_rules, rules)

pub put_opening-requires-clause-has_room : goal.put_opening-requires-clause-has_room
put_opening-requires-clause-has_room t c = search (group_rules, rules)

pub overflow_add-place : goal.overflow_add-place
overflow_add-place t c = search (group_rules, rules)

pub loop-i-init : goal.loop-i-init
loop-i-init t c = search (group_rules, rules)

pub key_at-requires-clause-holder : goal.key_at-requires-clause-holder
key_at-requires-clause-holder t c = key_holder c.loop-i.invariant

pub key_at-requires-clause-index_in : goal.key_at-requires-clause-index_in
key_at-requires-clause-index_in t c = key_few c.loop-i.invariant

pub unwrap-key-requires : goal.unwrap-key-requires
unwrap-key-requires t c = key-some c.loop-i.invariant c.loop-i-test.true c.key_at.ensures

pub render-end-requires : goal.render-end-requires
render-end-requires t c = (
  search (shallower c.loop-i.invariant, c.decreases, rules),
  child-ready c.loop-i.invariant c.loop-i-test.true c.key_at.ensures c.unwrap-key.ensures,
)

pub loop-i-preserved : goal.loop-i-preserved
loop-i-preserved t c = lay-next c.loop-i.invariant c.loop-i-test.true c.key_at.ensures c.unwrap-key.ensures c.render-end.ensures c.skip.ensures

pub returns-after-loop-i : goal.returns-after-loop-i
returns-after-loop-i t c = lay-end c.loop-i.invariant c.requires c.from-size.ensures c.from-count.ensures c.put_opening.ensures c.loop-i-test.false
