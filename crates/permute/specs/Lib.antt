pub mod Parity
pub mod Permuted
