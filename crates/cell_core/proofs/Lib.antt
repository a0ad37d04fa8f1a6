pub mod CellOrder
pub mod Members
pub mod SchemaLemmas
