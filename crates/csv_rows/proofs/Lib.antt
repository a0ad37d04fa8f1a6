pub mod NumberLemmas
pub mod Taken
pub mod RecordLemmas
pub mod NameLemmas
