pub mod OrderSteps
pub mod Keys
pub mod ToggleSteps
pub mod Uses
