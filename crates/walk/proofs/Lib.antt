pub mod Terms
pub mod Adds
pub mod Leads
