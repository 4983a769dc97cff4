pub mod Roll
