pub mod Emitting
pub mod Publishing
pub mod Hearing
