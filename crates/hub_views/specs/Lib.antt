pub mod Changing
pub mod Keeping
pub mod Live
pub mod Refreshing
pub mod Tables
