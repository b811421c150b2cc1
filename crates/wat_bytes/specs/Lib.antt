pub mod BareLaws
pub mod Listing
pub mod Names
pub mod OneText
pub mod Texts
pub mod WorkedNames
pub mod WorkedResults
