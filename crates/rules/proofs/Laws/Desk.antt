-- One desk: marking, the parts of collect, soundness, room, the hand-back in time, and its words.
pub mod Marks
pub mod Collect
pub mod Room
pub mod Encoding
pub mod Sound
pub mod HandBack
pub mod Decoding
