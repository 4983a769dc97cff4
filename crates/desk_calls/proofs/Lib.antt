-- What the proofs of several functions use; what a caller may rely on is in Lending and Exchanging, the tables of refusals for him in Given, and that he gets one
-- outcome in Outcomes.
pub mod Serving
pub mod Narrowing
pub mod Lending
pub mod Exchanging
pub mod Given
pub mod Outcomes
