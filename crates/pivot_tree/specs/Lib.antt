pub mod Columns
pub mod Groups
pub mod Families
pub mod Nodes
pub mod Trees
pub mod Laws
