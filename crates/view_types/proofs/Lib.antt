pub mod KeyOrder
pub mod MapCopies
pub mod PutCells
pub mod SameRows
