-- Laws that the proofs cite.
pub mod NumberLaws
pub mod Laws
pub mod Reasons
pub mod ReasonCases
