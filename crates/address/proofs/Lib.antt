pub mod Address
pub mod Bitset
pub mod Giving
pub mod Permutation
