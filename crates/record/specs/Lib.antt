pub mod Letters
pub mod Record
pub mod RecordLaws
