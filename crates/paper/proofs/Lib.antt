-- Laws that the crates above cite.
pub mod Tests
pub mod Chains
pub mod Checks
pub mod Lending
pub mod Refusing
