pub mod Escapes
pub mod Kept
pub mod Numbers
pub mod Written
