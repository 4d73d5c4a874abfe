-- Calls on bytes, and lists of them.
pub mod Bytes
pub mod ByteHistories
pub mod FirstBoard
pub mod HallUnchanged
pub mod Runs
