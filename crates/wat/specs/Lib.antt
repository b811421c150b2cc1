pub mod Lines
pub mod Outputs
pub mod Sections
pub mod WorkedSections
