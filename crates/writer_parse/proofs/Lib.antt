-- The laws of values and names.
pub mod Grouping
pub mod Heading
pub mod Keying
