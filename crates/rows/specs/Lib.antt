pub mod Stored
pub mod Laying
pub mod Meaning
pub mod Kids
