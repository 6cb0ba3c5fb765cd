pub mod Noise
pub mod EnergyDispersal
pub mod Restoring
pub mod Masks
pub mod Octets
