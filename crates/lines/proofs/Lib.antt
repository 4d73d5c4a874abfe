-- Laws that the proofs cite.
pub mod DigitLaws
pub mod FrontLaws
