use Prim.Native.Nat.{◌+◌, ◌*◌}
use lib.ListN.{length}
use Rattle.reader_render.proofs.Printing.{Printing}
use Rattle.reader_render.proofs.group.+value.Given as goal

abbrev pub decreases-put_value : goal.decreases-put_value
decreases-put_value l = 2 * length l.v.now + 1

abbrev pub decreases-render : goal.decreases-render
decreases-render l = 2 * length l.v.now

abbrev pub invariant-render-loop-i : goal.invariant-render-loop-i
invariant-render-loop-i l = Printing l.d l.row l.v l.initial.out l.out l.p l.i l.i-end
