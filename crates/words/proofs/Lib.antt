-- Laws of the words.
pub mod Choice
pub mod MarkLaws
pub mod ByteLaws
pub mod Compared
pub mod Members
pub mod Places
