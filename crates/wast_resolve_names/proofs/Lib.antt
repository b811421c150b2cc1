pub mod Accesses
pub mod CallingNames
pub mod Guessing
pub mod NoIds
pub mod Parts
pub mod Stopping
pub mod Trials
