-- Laws of saying it again, and its cases.
pub mod Growing
pub mod Few
pub mod Timers
pub mod Waking
pub mod Promised
pub mod OneReply
pub mod Area
pub mod Alone
pub mod Recorded
pub mod Cuts
pub mod Cases
