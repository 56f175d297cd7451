pub mod Bytes
pub mod Refusals
pub mod Readers
pub mod Views
pub mod Forms
pub mod Lines
