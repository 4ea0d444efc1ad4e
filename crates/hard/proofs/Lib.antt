pub mod Fills
pub mod Forms
