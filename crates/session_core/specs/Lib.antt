pub mod Faults
pub mod Histories
pub mod Outcome
pub mod Script
pub mod Underway
