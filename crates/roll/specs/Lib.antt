-- Who votes, what they weigh, and whose turn a round is.
pub mod Weighing
