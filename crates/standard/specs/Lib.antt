pub mod Pile
pub mod New
