pub mod Making
pub mod Dues
pub mod Arriving
pub mod Checking
