-- What this crate's contracts are written in, beside the listing's definitions.
pub mod InContracts
