-- The words that every other definition is written in.
pub mod Choice
pub mod Marks
pub mod Bytes
pub mod Members
