pub mod Constants
pub mod Grammar
pub mod Modules
pub mod Readers
pub mod Scripts
pub mod Words
pub mod Worked
