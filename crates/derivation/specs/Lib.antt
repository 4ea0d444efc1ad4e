pub mod Derivation
pub mod Held
pub mod TooLong
