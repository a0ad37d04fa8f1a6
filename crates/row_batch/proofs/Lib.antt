pub mod ChangeLists
pub mod Checked
pub mod Kept
pub mod Keys
pub mod Lookups
pub mod Patching
pub mod Steps
