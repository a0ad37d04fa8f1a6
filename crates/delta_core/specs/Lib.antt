pub mod Deltas
pub mod DirtySets
pub mod Folding
pub mod Gaps
pub mod KeySets
pub mod Laws
pub mod Preparing
pub mod Rows
