pub mod Layout
pub mod Rules
pub mod Operands
pub mod Writing
pub mod Reading
pub mod Unread
pub mod Laws
