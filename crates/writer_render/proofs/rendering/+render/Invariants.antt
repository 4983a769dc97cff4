-- `writer_render::rendering::render` meets its contract, with the nesting left as the number that falls. The loop keeps that the members left to read, to take from the slots and to write are the same.
-- Assumes nothing.
use Rattle.writer_render.proofs.Laying.{Laying}
use Rattle.writer_render.proofs.rendering.+render.Given as goal

abbrev pub decreases-render : goal.decreases-render
decreases-render l = l.room

abbrev pub invariant-loop-i : goal.invariant-loop-i
invariant-loop-i l = Laying l.d l.s l.slots l.room l.row l.n l.fn.from.at l.fn.from.slot l.g l.count l.initial.out l.out l.place l.i
