pub mod Memory
pub mod OldLayout
pub mod Places
pub mod LayoutLaws
pub mod MemoryLaws
pub mod OldLayoutLaws
