pub mod Bytes
pub mod Number
pub mod Integer
pub mod Decimal
pub mod Met
pub mod Output
