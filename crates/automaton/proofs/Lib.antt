pub mod Living
pub mod Adding
pub mod Births
pub mod Answering
pub mod Meaning
