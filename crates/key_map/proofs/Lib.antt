pub mod ByKey
pub mod Keyed
pub mod LookUps
