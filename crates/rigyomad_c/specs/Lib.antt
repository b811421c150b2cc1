pub mod Answers
pub mod Lists
pub mod Notes
pub mod Scripts
