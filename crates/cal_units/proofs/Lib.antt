pub mod BucketLemmas
pub mod DateTextLemmas
pub mod DayLemmas
pub mod DigitLemmas
pub mod MomentTextLemmas
