pub mod Drill
pub mod Steps
pub mod Complete
pub mod Drilling
