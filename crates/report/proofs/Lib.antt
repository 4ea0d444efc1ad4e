pub mod Outputs
pub mod Texts
