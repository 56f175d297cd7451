mod Over
mod Moving
mod RowRules
mod Adding
mod Answering
mod Births
mod Questions
mod Labelling
