pub mod MapRows
