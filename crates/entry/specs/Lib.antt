pub mod Entries
pub mod EntryViews
