pub mod Codewords
pub mod Linear
pub mod Registering
pub mod Roots
pub mod Rowing
pub mod Sizes
pub mod Unique
