pub mod Parts
pub mod Met
