pub mod Kinds
pub mod Faults
pub mod Trees
pub mod Expressions
pub mod Columns
pub mod Filters
pub mod Sorts
pub mod Plans
