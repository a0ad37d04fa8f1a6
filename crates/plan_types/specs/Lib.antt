pub mod AggregateNames
pub mod Columns
