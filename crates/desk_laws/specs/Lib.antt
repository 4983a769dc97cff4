pub mod View
pub mod State
pub mod Refusing
pub mod Ignoring
pub mod Sound
