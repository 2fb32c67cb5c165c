-- Laws and examples of weighing.
pub mod Weighing
pub mod Examples
