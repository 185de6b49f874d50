pub mod LineSteps
pub mod LineParts
pub mod NameLaws
pub mod Judged
