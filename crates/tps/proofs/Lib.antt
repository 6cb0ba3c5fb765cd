pub mod Bits
pub mod Writing
pub mod Dividing
pub mod Signalling
pub mod Multiples
pub mod Telling
