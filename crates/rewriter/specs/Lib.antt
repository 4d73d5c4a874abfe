-- The definitions that the contracts of this crate cite, beside those of the rules, computed cases of them, and what follows from the contract
-- of `rewrite`.
pub mod Build
pub mod Output
