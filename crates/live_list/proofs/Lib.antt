pub mod Indexed
pub mod Told
