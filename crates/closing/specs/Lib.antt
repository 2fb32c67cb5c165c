-- What is delivered in a round, and C-22: a good round always closes.
pub mod Waves
pub mod Closing
