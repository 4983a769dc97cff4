-- The laws of a record: what its functions answer, that each move keeps a record sound, and the table of moves in propositions (Table).
pub mod Moving
pub mod Table
