pub mod Zeros
pub mod Values
