pub mod Refusals
pub mod SingleLaws
pub mod VisibleLaws
