pub mod Fitting
pub mod Passing
pub mod OneTree
pub mod OfSort
pub mod Standing
pub mod Growing
pub mod TableLaws
