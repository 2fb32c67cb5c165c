-- The flat twins and what they mean.
pub mod Twins
pub mod InContracts
