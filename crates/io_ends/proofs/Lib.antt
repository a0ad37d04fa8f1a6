pub mod Cuts
pub mod Midway
pub mod NextLines
