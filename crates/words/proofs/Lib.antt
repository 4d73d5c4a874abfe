-- The laws that the proofs of this crate and of those above it cite.
pub mod Scan
pub mod Laws
pub mod Copies
