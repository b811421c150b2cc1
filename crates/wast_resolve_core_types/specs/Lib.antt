-- The definitions that the contracts of this crate use:
--   Tree       the AST types under short names
--   CoreTypes  resolving the indices in a type by calls of a caller's function
pub mod Tree
pub mod CoreTypes
