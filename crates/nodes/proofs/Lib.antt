pub mod Among
pub mod Right
mod Marking
pub mod Pushing
pub mod Reading
