pub mod Code
pub mod CodeLaws
pub mod Listing
pub mod ListingLaws
pub mod Words
pub mod Writer
pub mod Writing
