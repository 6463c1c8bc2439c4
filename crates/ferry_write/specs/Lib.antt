pub mod Fault
pub mod Script
pub mod Room
pub mod Session
pub mod Rows
pub mod Front
