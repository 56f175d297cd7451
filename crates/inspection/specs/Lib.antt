pub mod Inspections
