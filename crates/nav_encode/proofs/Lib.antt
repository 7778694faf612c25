pub mod Laws
pub mod Equal
pub mod Codes
pub mod Round
pub mod Derived
pub mod Claims
