pub mod Compare
pub mod Fault
pub mod Matched
pub mod Same
pub mod Steps
