pub mod Counting
pub mod Indexed
pub mod Lasts
pub mod Worked
