-- The laws of the scanner.
pub mod Runs
pub mod Grammar
pub mod Lexing
