pub mod Callers
pub mod Holding
pub mod Queueing
pub mod Refusing
pub mod Rooms
pub mod Standing
pub mod Taken
