pub mod Plan
pub mod Fault
pub mod Tally
pub mod Parts
pub mod Steps
pub mod Transfer
