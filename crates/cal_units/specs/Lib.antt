pub mod Buckets
pub mod Calendar
pub mod DateText
pub mod Digits
pub mod MomentText
