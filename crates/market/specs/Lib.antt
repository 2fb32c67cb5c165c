-- A kiosk as agreement sees it, its calls by their promises, and demand 3.
pub mod Seat
pub mod Kiosks
pub mod Demand3
