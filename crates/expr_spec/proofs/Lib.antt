pub mod FitLemmas
pub mod NumberedLemmas
pub mod RoundingLemmas
pub mod TextLemmas
pub mod Truths
