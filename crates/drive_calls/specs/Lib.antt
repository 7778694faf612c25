pub mod Rules
pub mod Examples
