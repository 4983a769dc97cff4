pub mod Insides
pub mod Roots
