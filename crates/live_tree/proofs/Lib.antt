pub mod KeptChanges
pub mod MapRows
pub mod RowFits
