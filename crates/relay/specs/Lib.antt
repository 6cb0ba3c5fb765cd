pub mod Waiting
pub mod Sent
pub mod Listening
