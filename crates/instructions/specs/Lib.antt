pub mod Codes
pub mod Effects
pub mod Words
