pub mod SubsetSteps
pub mod FewSteps
pub mod KeySteps
pub mod ShiftSteps
