pub mod Answer
pub mod TpsBlock
