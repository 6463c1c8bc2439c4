pub mod Verify
pub mod Report
pub mod Steps
