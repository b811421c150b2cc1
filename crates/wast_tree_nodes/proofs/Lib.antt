pub mod Asking
pub mod Bearing
pub mod Behind
pub mod Pushing
