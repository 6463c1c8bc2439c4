pub mod Fault
pub mod Head
pub mod Least
pub mod Live
pub mod Log
pub mod Opening
pub mod State
pub mod Window
