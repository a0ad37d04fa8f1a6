pub mod Drafts
pub mod Lookups
pub mod Prepared
pub mod Tables
