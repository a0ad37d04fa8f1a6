pub mod Functions
pub mod Rounding
pub mod TreeData
pub mod TreeViews
pub mod Typing
pub mod Values
