pub mod Tag
pub mod Steps
