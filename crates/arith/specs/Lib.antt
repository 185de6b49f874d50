pub mod Operators
pub mod Comparisons
