pub mod Item
pub mod Problem
pub mod Entries
pub mod Held
pub mod ItemLaws
pub mod ProblemLaws
pub mod RefusedLaws
pub mod TooLong
