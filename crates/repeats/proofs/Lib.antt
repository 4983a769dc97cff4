pub mod Bits
pub mod Rolls
