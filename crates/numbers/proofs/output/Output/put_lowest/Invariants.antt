-- `numbers::output::Output::put_lowest` meets its contract. The loop keeps that what is not yet written are the lowest bytes of what is left.
-- Assumes nothing.
use Rattle.numbers.proofs.Putting.{Lowering}
use Rattle.numbers.proofs.output.Output.put_lowest.Given as goal

abbrev pub invariant-loop : goal.invariant-loop
invariant-loop l = Lowering l.initial.self l.k l.n l.counter l.x l.self
