pub mod Growth
pub mod Finding
pub mod Stepping
pub mod Working
pub mod Labelling
pub mod Choosing
