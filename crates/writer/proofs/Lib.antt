-- The laws of the writer's entry.
pub mod Entering
