pub mod Content
pub mod Fields
pub mod Archives
pub mod Source
pub mod Steps
