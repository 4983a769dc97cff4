pub mod Limits
pub mod Refusals
pub mod Refusal
pub mod Checks
pub mod Tests
pub mod Lending
