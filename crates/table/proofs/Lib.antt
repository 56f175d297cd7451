pub mod Places
pub mod Meaning
mod Buckets
mod Chains
mod Links
