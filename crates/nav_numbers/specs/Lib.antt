pub mod Rules
pub mod Pieces
pub mod Theorems
