-- The statements of this crate:
--   Erasing          the renaming that sets the address of every id to 0
--   Laws             trees that differ in addresses alone have one meaning
--   WorkedMeanings   an example
pub mod Erasing
pub mod Laws
pub mod WorkedMeanings
