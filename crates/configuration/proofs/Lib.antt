pub mod Forms
pub mod Tests
pub mod Weights
pub mod Uses
