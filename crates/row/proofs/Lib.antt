pub mod Keeping
pub mod Passing
pub mod Erasing
pub mod Firsts
pub mod Writing
pub mod Choosing
pub mod Lowering
pub mod Costs
