pub mod ClueLaws
mod Examples
pub mod LookSteps
pub mod NextToken
pub mod RunSteps
pub mod SignSpelling
pub mod TokenLaws
