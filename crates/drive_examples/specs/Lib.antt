pub mod Discs
pub mod Titles
pub mod Checks
pub mod Promises
