pub mod Field
pub mod Protection
pub mod Block
pub mod Laws
