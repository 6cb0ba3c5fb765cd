pub mod Stores
pub mod Gathered
pub mod Read
pub mod SymbolSides
