pub mod Puncturing
pub mod Convolution
pub mod Walks
pub mod Coder
pub mod Published
pub mod Coding
pub mod Taps
pub mod Vectors
