-- Laws of the flat twins.
pub mod Back
