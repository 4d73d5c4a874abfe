-- The definitions of the board whose list is a ring, and what is proved of them.
pub mod Ring
pub mod RingDemands
