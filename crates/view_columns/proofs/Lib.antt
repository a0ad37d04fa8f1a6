pub mod AbsentColumns
pub mod Dates
pub mod Escapes
pub mod WholeHeaders
