pub mod Restored
pub mod Restoring
