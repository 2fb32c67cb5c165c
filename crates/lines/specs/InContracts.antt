-- What the contracts of inner code are written in; no promise speaks of it.
pub mod Digits
