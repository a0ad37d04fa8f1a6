pub mod Causes
pub mod Intake
pub mod Lines
pub mod Memory
pub mod Partial
pub mod Reading
pub mod Told
