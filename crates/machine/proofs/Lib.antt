pub mod Taking
pub mod Checks
pub mod Meaning
pub mod Readings
