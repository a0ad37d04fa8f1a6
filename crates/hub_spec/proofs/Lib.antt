pub mod Calling
pub mod Counting
pub mod Folding
pub mod Giving
pub mod Numbering
pub mod Ports
pub mod Said
pub mod Worked
