pub mod Laws
pub mod Lines
pub mod Lengths
pub mod Examples
