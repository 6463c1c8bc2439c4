pub mod Fault
pub mod Item
pub mod Stream
pub mod Writing
pub mod Progress
