pub mod MappedLaws
pub mod RefusalLaws
