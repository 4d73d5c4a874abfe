-- The proofs, by subject; docs/ARCHITECTURE.md has the arguments in short.
pub mod Lists
pub mod Desk
pub mod History
pub mod Pairing
pub mod Table
pub mod Bytes
