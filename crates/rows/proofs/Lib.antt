pub mod Reading
pub mod Walked
pub mod Laying
pub mod Putting
