pub mod Calling
pub mod CallingEach
pub mod PartsOfTypes
pub mod TypeParts
