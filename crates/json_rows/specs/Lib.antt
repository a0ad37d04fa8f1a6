pub mod RawOf
pub mod Reading
