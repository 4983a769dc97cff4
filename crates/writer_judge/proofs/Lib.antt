-- The laws of the first pass.
pub mod Freshly
pub mod Steps
pub mod Gathers
pub mod Rooting
