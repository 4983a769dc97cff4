-- `reader_judge::group::inside` meets its contract: the value of a set or array, itself called on each inner one with one level less.
-- Assumes nothing.
use Rattle.std.proofs.lemmas.Result.{err_from_is_err_and}
use Rattle.reader_judge.proofs.Insides.{ok-placed, err-placed, loop_plain, loop_group, inside_too_deep, inside_fault, inside-start, inside-bad, inside-inner, inside-left, inside-good}
use Rattle.reader_judge.proofs.group.+inside.Goals as goal
use Rattle.reader_judge.proofs.group.+inside.Goals.{in-Plain, in-Group+in_ok-inner-in-Group}

pub returns-then-room-eq0 : goal.returns-then-room-eq0
returns-then-room-eq0 t c = rw (c.at.ensures.refusal, c.at.ensures.place) (inside_too_deep _ _ _ _ _ _ _ _ c.if-room-eq0.true)

pub returns-in_err-count : goal.returns-in_err-count
returns-in_err-count t c =
    let p = err_from_is_err_and c.from_residual.result c.from_residual.ensures.1 in
    let e = err-placed c.number_at.result c.args.at c.placed.ensures c.in_err-count.was in
    rw (p.1, p.2, ← e.1) (inside_fault _ _ _ _ _ _ _ _ c.if-room-eq0.false _ (rw e.0 at c.number_at.ensures))

pub loop-i-init : goal.loop-i-init
loop-i-init t c = inside-start _ _ _ _ c.args.at _ _ _ c.if-room-eq0.false _ _ (rw (ok-placed c.number_at.result c.args.at c.placed.ensures c.in_ok-count.was) at c.number_at.ensures) _ c.new-roll.ensures

pub returns-in_err-member : goal.returns-in_err-member
returns-in_err-member t c =
    let p = err_from_is_err_and c.from_residual-in_err-member.result c.from_residual-in_err-member.ensures.1 in
    let e = err-placed c.member_at.result c.loop-i.pos c.placed-in-loop-i.ensures c.in_err-member.was in
    rw (p.1, p.2, ← e.1)
    (inside-bad _ _ _ _ _ _ _ _ c.if-room-eq0.false _ _ (rw (ok-placed c.number_at.result c.args.at c.placed.ensures c.in_ok-count.was) at c.number_at.ensures)
    _ _ _ _ _ c.loop-i.invariant c.loop-i-test.true _ (rw e.0 at c.member_at.ensures))

pub returns-in_err-inner-in-Group : goal.returns-in_err-inner-in-Group
returns-in_err-inner-in-Group t c =
    let p = err_from_is_err_and c.from_residual-in_err-inner-in-Group.result c.from_residual-in_err-inner-in-Group.ensures.1 in
    rw (p.1, p.2)
    (inside-inner _ _ _ _ _ _ _ _ c.if-room-eq0.false _ _ (rw (ok-placed c.number_at.result c.args.at c.placed.ensures c.in_ok-count.was) at c.number_at.ensures)
    _ _ _ _ _ c.loop-i.invariant c.loop-i-test.true _
    _ _ _ (rw (ok-placed c.member_at.result c.loop-i.pos c.placed-in-loop-i.ensures c.in_ok-member.was) at c.member_at.ensures) _ c.in-Group.is c.in_err-inner-in-Group.ensures)

pub loop-i-preserved : goal.loop-i-preserved
loop-i-preserved t c =
    elim c.match-member.branch [
      | in-Plain w ↦ rw (w.pos-is, w.left-is, w.long-is) (loop_plain _ _ _ _ _ _ _ _ _ _ _ _ _ c.loop-i.invariant c.loop-i-test.true _ _ _ _ (rw (ok-placed c.member_at.result c.loop-i.pos c.placed-in-loop-i.ensures c.in_ok-member.was) at c.member_at.ensures) _ _ w.in-Plain.is)
      | in-Group+in_ok-inner-in-Group w ↦ rw (w.pos-is, w.left-is, w.long-is) (loop_group _ _ _ _ _ _ _ _ _ _ _ _ _ c.loop-i.invariant c.loop-i-test.true _ _ _ _ (rw (ok-placed c.member_at.result c.loop-i.pos c.placed-in-loop-i.ensures c.in_ok-member.was) at c.member_at.ensures) _ w.in-Group.is _ _ w.in_ok-inner-in-Group.ensures)
    ]

pub returns-then-pos-value : goal.returns-then-pos-value
returns-then-pos-value t c =
    rw (c.at-then-pos-value.ensures.refusal, c.at-then-pos-value.ensures.place)
    (inside-left _ _ _ _ _ _ _ _ c.if-room-eq0.false _ _ (rw (ok-placed c.number_at.result c.args.at c.placed.ensures c.in_ok-count.was) at c.number_at.ensures) _ _ _ _ _ c.loop-i.invariant c.loop-i-test.false c.if-pos-value.true)

pub returns : goal.returns
returns t c = inside-good _ _ _ _ _ _ _ _ c.if-room-eq0.false _ _ (rw (ok-placed c.number_at.result c.args.at c.placed.ensures c.in_ok-count.was) at c.number_at.ensures) _ _ _ _ _ c.loop-i.invariant c.loop-i-test.false c.if-pos-value.false
