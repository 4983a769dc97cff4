pub mod Bytes
pub mod Coded
