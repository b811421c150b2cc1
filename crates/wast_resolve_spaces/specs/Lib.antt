-- The definitions that the contracts of this crate use:
--   Clashes  the search for the first duplicate id
--   Shaping  reading the types of a module
--   Tree     the AST types under short names
pub mod Clashes
pub mod Shaping
pub mod Tree
