pub mod Batches
pub mod Changes
pub mod Checks
pub mod Reading
pub mod Steps
pub mod Tables
