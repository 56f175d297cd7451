pub mod Keys
pub mod Entering
pub mod Owner
pub mod Entries
