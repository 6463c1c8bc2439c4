pub mod Delete
pub mod Steps
