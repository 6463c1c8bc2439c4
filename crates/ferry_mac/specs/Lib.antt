pub mod Hmac
pub mod Keyed
pub mod Hkdf
pub mod Pbkdf2
pub mod Lanes
pub mod Many
