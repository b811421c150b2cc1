pub mod Reaching
pub mod Found
