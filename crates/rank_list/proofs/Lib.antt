pub mod Entries
pub mod Heights
pub mod Order
pub mod Seams
pub mod Windows
