pub mod Batches
pub mod Length
