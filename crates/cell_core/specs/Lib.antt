pub mod Cells
pub mod Keepings
pub mod Limits
pub mod RawData
pub mod RawViews
pub mod Schemas
