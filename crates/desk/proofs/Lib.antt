-- The laws of the desk's definitions, and for each function one lemma for each return.
pub mod Answered
pub mod Places
pub mod Soundness
pub mod Settling
pub mod Finding
pub mod Scanning
pub mod Calling
pub mod Supplying
pub mod Sorting
