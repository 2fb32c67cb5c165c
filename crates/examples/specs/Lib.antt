-- What the definitions are held against, in reading order: calls of a kiosk, then of the board's library.
pub mod Cases
pub mod Whole
pub mod Kiosk
pub mod Examples
pub mod MadeUp
pub mod Flat
pub mod Board
pub mod Fields
