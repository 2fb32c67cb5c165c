-- Laws of what is said.
pub mod Rooms
