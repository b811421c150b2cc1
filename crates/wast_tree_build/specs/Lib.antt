-- The definitions that contracts of this crate name.
--
--   Makers   the results of the calls of a TreeBuilder
--   Tree     short names of the AST types
pub mod Makers
pub mod Tree
