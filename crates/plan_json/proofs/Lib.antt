pub mod Fronts
pub mod Members
pub mod Back
pub mod Written
pub mod Pairs
