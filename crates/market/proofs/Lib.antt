-- Demand 3: a kiosk of the rules keeps its lock, its journal keeps its history, and so no two settle different sheets.
pub mod Votes
pub mod Steps
pub mod Good
pub mod Moving
pub mod Honest
pub mod Settled
pub mod Kiosks
pub mod Each
pub mod OneSheet
pub mod Again
pub mod Schedule
pub mod Examples
pub mod Premises
