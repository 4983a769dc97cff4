pub mod Fielding
