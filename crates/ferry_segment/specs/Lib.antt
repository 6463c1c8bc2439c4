pub mod Crc
pub mod Entry
pub mod Head
pub mod Reading
pub mod Segment
