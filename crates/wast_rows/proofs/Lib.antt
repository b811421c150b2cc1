pub mod Feeding
pub mod Numerals
pub mod Running
pub mod Started
pub mod Telling
pub mod Worked
pub mod Writing
