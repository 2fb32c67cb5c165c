-- Laws of reading a line, and the theorems: what it reads back, and that nothing else is read.
pub mod Words
pub mod Decimals
pub mod Line
pub mod Exact
pub mod Cases
