pub mod Building
pub mod Parsing
pub mod Parts
pub mod Replies
pub mod Requests
