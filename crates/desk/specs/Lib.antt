pub mod Desk
pub mod Listing
pub mod Calls
pub mod Met
