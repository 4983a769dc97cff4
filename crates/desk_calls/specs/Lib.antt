pub mod Served
pub mod Met
pub mod Lending
