pub mod DivisorSteps
pub mod Euclid
pub mod Floors
pub mod Lowest
