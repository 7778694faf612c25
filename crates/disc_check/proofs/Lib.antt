pub mod Exact
pub mod Safe
pub mod Walk
