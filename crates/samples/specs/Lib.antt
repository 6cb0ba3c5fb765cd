pub mod Generator
pub mod Digest
pub mod Sample
pub mod Table16
pub mod Naming
pub mod Tally
pub mod Returns
pub mod AnnexC
