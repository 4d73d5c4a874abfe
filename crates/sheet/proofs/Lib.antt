-- Laws that several proofs cite.
pub mod CallLaws
pub mod BatchLaws
pub mod StartLaws
pub mod Laws
pub mod Whole
