-- Laws of a call on a file.
pub mod Sending
pub mod Said
pub mod Waking
