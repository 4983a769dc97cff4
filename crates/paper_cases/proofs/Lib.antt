pub mod Figure6
pub mod Cases
