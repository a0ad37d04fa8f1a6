pub mod Exact
pub mod Parts
pub mod Place
pub mod Shape
pub mod Tree
