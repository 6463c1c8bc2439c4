pub mod Count
pub mod Location
pub mod Names
