pub mod Hard
pub mod HardLaws
pub mod Held
pub mod HeldLaws
pub mod Working
pub mod WorkingLaws
