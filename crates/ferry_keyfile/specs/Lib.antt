pub mod Fault
pub mod KeyFile
pub mod Text
