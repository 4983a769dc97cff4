-- `reader_members::seat::seat_at` meets its contract: a child by its number, or the index.
-- Assumes nothing.
use Rattle.std.proofs.Common.{rules}
use Rattle.reader_members.proofs.Seating.{seats}
use Rattle.reader_members.proofs.seat.seat_at.Goals as goal

pub child_numbered-requires-clause-row_in : goal.child_numbered-requires-clause-row_in
child_numbered-requires-clause-row_in c = search (seats, rules)

pub returns-in_default : goal.returns-in_default
returns-in_default c = search (seats, rules)

pub given-requires : goal.given-requires
given-requires c = search (seats, rules)

pub returns-then-given : goal.returns-then-given
returns-then-given c = search (seats, rules)

pub give-requires : goal.give-requires
give-requires c = search (seats, rules)

pub returns-else-given : goal.returns-else-given
returns-else-given c = search (seats, rules)

pub returns-then-n-i : goal.returns-then-n-i
returns-then-n-i c = search (seats, rules)

pub returns-else-n-i : goal.returns-else-n-i
returns-else-n-i c = search (seats, rules)
