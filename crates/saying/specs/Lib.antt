pub mod Texts
pub mod Saying
