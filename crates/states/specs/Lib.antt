pub mod Leading
pub mod Keys
pub mod KeyLaws
pub mod Room
pub mod Placing
pub mod Meaning
