pub mod Fnv
pub mod FnvLaws
pub mod Halves
