pub mod Calls
pub mod Line
pub mod Receiver
pub mod Claims
pub mod Steps
pub mod LineSteps
pub mod ReceiverSteps
pub mod Exactly
