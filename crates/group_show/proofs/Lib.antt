pub mod CellKinds
pub mod KeptRows
pub mod MetGroups
pub mod ShownEntries
