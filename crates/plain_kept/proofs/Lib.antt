pub mod KeyedLaws
pub mod PlainLaws
