pub mod Discs
pub mod Objects
