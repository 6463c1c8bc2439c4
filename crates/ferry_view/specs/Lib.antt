pub mod Lines
pub mod Output
pub mod Items
pub mod Steps
