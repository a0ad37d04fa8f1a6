pub mod Members
pub mod Names
pub mod Plans
pub mod Reading
pub mod Writing
pub mod Words
