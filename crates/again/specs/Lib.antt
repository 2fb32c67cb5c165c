-- What a kiosk says again after waking; last, apart, what only contracts are written in.
pub mod Again
pub mod InContracts
