-- Histories, what stands at the end of a journal that a power cut left, what a journal remembers, and the bytes that it can still take.
pub mod Histories
pub mod Remembering
pub mod Counting
