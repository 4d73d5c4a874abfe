-- The definition that the contract of this crate cites.
pub mod Asks
