pub mod Binds
pub mod Cuts
pub mod Extends
pub mod Leaving
pub mod Lists
pub mod Marks
pub mod Matches
