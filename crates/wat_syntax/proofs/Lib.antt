pub mod AtZero
pub mod Numbers
pub mod WorkedBare
pub mod WorkedBodies
pub mod WorkedCustoms
pub mod WorkedFields
pub mod WorkedTypes
