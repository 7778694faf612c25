pub mod Named
pub mod Laws
pub mod Rows
