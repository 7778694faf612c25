pub mod Rules
pub mod Numbers
pub mod Theorems
