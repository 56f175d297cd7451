pub mod Seen
pub mod Walking
pub mod Keeping
