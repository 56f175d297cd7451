pub mod Kids
pub mod Views
