pub mod Examples
pub mod Laws
pub mod KnownInput
pub mod Taken
pub mod Whole
