pub mod Words
pub mod BitInterleaver
pub mod SymbolInterleaver
pub mod Published
pub mod BitBlocks
pub mod Digits
pub mod Symbols
pub mod Vectors
