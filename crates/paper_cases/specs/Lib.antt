pub mod Spelling
pub mod Figure6
pub mod Cases
pub mod Further
