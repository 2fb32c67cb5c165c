-- What this crate's contracts are written in, beside the rules' definitions.
pub mod InContracts
