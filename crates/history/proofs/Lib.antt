-- What a journal remembers.
pub mod Images
pub mod Finding
pub mod Telling
pub mod Openings
pub mod Steady
pub mod Puts
pub mod Names
pub mod Readback
pub mod Counting
pub mod Room
pub mod Unheard
pub mod Calls
pub mod Replies
pub mod OneHistory
pub mod Examples
