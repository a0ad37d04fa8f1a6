pub mod Asks
pub mod Limits
pub mod Refusals
pub mod ReplyData
