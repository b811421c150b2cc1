pub mod Worked
pub mod WorkedFloats
