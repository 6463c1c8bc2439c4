pub mod Fields
pub mod Others
pub mod Sizes
