-- What laws count by, and what the contracts of the code are written in; no promise speaks of it.
pub mod Room
pub mod Ready
pub mod Lent
