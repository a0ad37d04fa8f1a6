pub mod Checked
pub mod CellFits
pub mod Fronts
