pub mod KindLemmas
pub mod NumberLemmas
pub mod Readings
