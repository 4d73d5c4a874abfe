-- What a take is linked to, and the pairing of hand-backs with retirements: demand 2 and the closing rule.
pub mod Links
pub mod LinkedTakes
pub mod OpenRetirements
pub mod Pairing
pub mod Guarantee
pub mod LinkedSession
pub mod Closing
