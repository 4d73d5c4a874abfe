pub mod RingTheorems
pub mod RingCases
pub mod RingInstances
pub mod RingExamples
pub mod Laws
