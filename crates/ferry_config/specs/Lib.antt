pub mod Line
pub mod Section
pub mod Value
pub mod Config
pub mod View
pub mod Fault
pub mod Text
