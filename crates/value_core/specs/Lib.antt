pub mod Reduced
pub mod Divisors
pub mod Fractions
pub mod FractionLaws
pub mod Values
pub mod ValueLaws
