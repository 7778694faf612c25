pub mod Reading
pub mod Texts
pub mod Lent
pub mod Classes
