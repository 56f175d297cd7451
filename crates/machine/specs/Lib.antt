pub mod Asked
pub mod Files
pub mod Machines
pub mod Readings
