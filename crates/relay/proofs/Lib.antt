pub mod Taking
pub mod Steps
pub mod Hearing
pub mod Collecting
pub mod Asking
