-- The laws of numbers and integers, and what the proofs of several functions use.
pub mod Worked
pub mod Places
pub mod Little
pub mod Writing
pub mod Adding
pub mod Numbers
pub mod Integers
pub mod Brief
pub mod Decimals
pub mod Reading
pub mod Putting
pub mod Texts
