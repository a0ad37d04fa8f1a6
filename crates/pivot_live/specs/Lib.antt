pub mod Affected
pub mod Stepping
pub mod Laws
