-- The definitions that the contracts of this crate use:
--   Tree          the AST types under short names
--   Segments      the segments of inline data and elements, and the size of their memory or table
--   WriteOut      the fields that replace a field
--   Referring     which items need an id, and how exports and segments refer to them
--   Written       the whole list of fields after expansion
--   WorkedFields  example modules with their expansions
--   Laws          theorems about the result
pub mod Tree
pub mod Segments
pub mod WriteOut
pub mod Referring
pub mod Written
pub mod WorkedFields
pub mod Laws
