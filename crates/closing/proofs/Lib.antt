-- Where a kiosk stands in a good round, what keeps it there and takes it on; the kiosks of a play; and that the round closes.
pub mod Situation
pub mod Weights
pub mod Later
pub mod Holding
pub mod Standing
pub mod Rest
pub mod Hearing
pub mod Owning
pub mod Beginning
pub mod Messages
pub mod Plays
pub mod Closing
pub mod Playing
pub mod Computed
pub mod Examples
pub mod Readings
