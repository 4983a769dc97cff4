pub mod Copying
pub mod Inside
pub mod Parting
pub mod Members
pub mod Wording
pub mod Printing
pub mod Payloads
