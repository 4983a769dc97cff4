-- What the proofs of several functions use, and the laws that the crates above cite.
pub mod Forms
pub mod Naming
pub mod Seeking
pub mod Finding
pub mod Laws
pub mod Asking
