pub mod Fronts
pub mod Words
pub mod Overlaid
pub mod Drafts
