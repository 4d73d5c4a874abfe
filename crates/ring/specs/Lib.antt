-- The definitions that the contracts of this crate cite, beside those of the rules.
pub mod RingKind
pub mod RingLaws
