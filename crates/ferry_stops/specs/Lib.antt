pub mod Entries
pub mod Chance
pub mod Ground
pub mod Blobs
pub mod Counters
pub mod Tells
