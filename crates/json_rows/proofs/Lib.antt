pub mod Members
pub mod Lists
pub mod AcrossLemmas
pub mod Taken
