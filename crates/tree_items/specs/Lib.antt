pub mod formers
pub mod Over
