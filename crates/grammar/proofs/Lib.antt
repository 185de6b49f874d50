pub mod Backwards
pub mod Complete
mod Examples
pub mod Free
pub mod Lexing
pub mod Sound
pub mod Stands
pub mod Whole
