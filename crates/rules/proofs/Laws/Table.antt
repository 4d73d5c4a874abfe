-- Calls on tables of words: encoding and decoding, histories, word bounds, demand 1, repeats, and what lies past the need.
pub mod EncodedStep
pub mod TableSteps
pub mod DecodeStepEncode
pub mod TableHistories
pub mod MessageHistories
pub mod RightNumbers
pub mod ClosingHistories
pub mod WordBounds
pub mod Demand1
pub mod Repeats
pub mod NeedSuffices
