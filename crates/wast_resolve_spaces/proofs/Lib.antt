pub mod Collecting
pub mod Countdowns
pub mod FieldClashes
pub mod FoundClashes
pub mod NoNames
pub mod Shaping
pub mod Trying
