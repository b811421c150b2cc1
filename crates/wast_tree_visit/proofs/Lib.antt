pub mod Balancing
pub mod Failing
pub mod Locating
pub mod Looking
pub mod Places
pub mod Shared
pub mod Telling
pub mod Visiting
