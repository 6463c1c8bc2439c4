pub mod Words
pub mod Laws
pub mod Options
pub mod Lone
pub mod Usage
pub mod Restore
