pub mod Fitting
pub mod Places
pub mod Pricing
pub mod Found
pub mod Sealing
