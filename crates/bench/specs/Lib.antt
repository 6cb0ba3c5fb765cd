pub mod Job
pub mod Verdict
pub mod Files
pub mod Text
