pub mod Keys
pub mod Memory
pub mod Chains
pub mod Links
pub mod Tables
pub mod Search
