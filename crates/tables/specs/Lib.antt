pub mod Trees
pub mod Rows
pub mod Tables
pub mod Sorts
pub mod Checks
pub mod Values
pub mod Passes
pub mod Kinds
