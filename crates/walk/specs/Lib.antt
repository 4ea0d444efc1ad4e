pub mod Walk
pub mod Work
pub mod WalkLaws
pub mod WorkLaws
pub mod Held
