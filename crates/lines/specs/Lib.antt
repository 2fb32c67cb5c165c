-- What a line of text reads as.
pub mod Reading
pub mod InContracts
