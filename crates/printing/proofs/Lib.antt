-- Laws of what is written.
pub mod Texts
pub mod Filling
