-- The definitions that the contracts of this crate cite.
pub mod Taken
pub mod Line
