pub mod Code
pub mod Field
pub mod Packets
pub mod Registers
