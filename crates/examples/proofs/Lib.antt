-- The lists, computed.
pub mod Each
pub mod Kiosk
pub mod Board
pub mod ExamplesHold
pub mod MadeUpSo
pub mod Told
pub mod ToldSo
pub mod FieldsSeen
