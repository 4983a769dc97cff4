pub mod Formats
pub mod Rows
pub mod Accepts
pub mod Children
pub mod Given
pub mod Met
