pub mod Leaves
pub mod Met
