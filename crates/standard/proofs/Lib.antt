pub mod Making
pub mod Seven
