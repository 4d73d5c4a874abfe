-- The definition that the contracts about a room cite.
pub mod Room
