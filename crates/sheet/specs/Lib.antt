-- The definitions that the contracts of this crate cite, beside those of the rules, and the theorems about a whole sheet.
pub mod Batch
pub mod Run
