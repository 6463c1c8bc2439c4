pub mod Fault
pub mod Blob
pub mod Batch
