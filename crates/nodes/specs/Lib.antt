pub mod Views
pub mod Checks
pub mod Places
pub mod Meaning
pub mod Theorems
