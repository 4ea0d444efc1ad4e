pub mod Forms
pub mod Openings
pub mod Closings
