-- The laws of the second pass.
pub mod Puts
pub mod Planned
pub mod Laying
