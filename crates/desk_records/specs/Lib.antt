pub mod Record
pub mod Moves
pub mod Met
