pub mod Digits
pub mod Fields
pub mod Lined
pub mod Met
