pub mod Fault
pub mod Envelope
pub mod Opening
pub mod Meaning
pub mod Sealing
