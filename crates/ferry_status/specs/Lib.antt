pub mod Status
pub mod Devices
pub mod Output
pub mod Telling
pub mod Opened
