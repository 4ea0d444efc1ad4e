pub mod Chains
pub mod Codes
pub mod Decimals
pub mod Lines
pub mod Listings
pub mod Names
pub mod Texts
pub mod Writes
