pub mod Calculus
pub mod CalculusLaws
pub mod Tests
pub mod TestsLaws
pub mod Simulation
