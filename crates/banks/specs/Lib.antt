pub mod Fixed
pub mod Points
pub mod Registers
pub mod Kept
pub mod Overlay
pub mod Draft
pub mod Laws
