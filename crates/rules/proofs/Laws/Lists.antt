-- Booleans, list functions and parts of a list.
pub mod Bools
pub mod Lists
pub mod ListSlices
