pub mod Lengthy
pub mod Trees
pub mod Plans
