-- Laws that the proofs cite.
pub mod OutputLaws
pub mod RecordLaws
pub mod SheetLaws
pub mod Cases
pub mod Laws
pub mod Whole
