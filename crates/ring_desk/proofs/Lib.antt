-- Laws that several proofs cite, and those that the board above cites (RingFound).
pub mod AroundLaws
pub mod ZeroLaws
pub mod RingParts
pub mod RingSettle
pub mod RingFound
