pub mod Lexemes
pub mod Choices
pub mod Grammar
pub mod Limits
pub mod Machine
pub mod Theorem
