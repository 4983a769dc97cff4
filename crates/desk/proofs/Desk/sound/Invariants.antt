-- `desk::Desk::sound` meets its contract. The loop keeps that what is left decides.
-- Assumes nothing.
use Rattle.desk.specs.Met.{Sounding}
use Rattle.desk.proofs.Desk.sound.Given as goal

abbrev pub invariant-loop-i : goal.invariant-loop-i
invariant-loop-i l = Sounding l.self l.i
