-- The definition that the contracts of this crate cite, beside those of the rules and of the reply.
pub mod Counts
