-- The definitions that contracts of this crate name.
--
--   Visits           a visit of a list
--   IllFormed        the first rule of well-formedness that fails, its position and its message
--   FirstUncovered   the first unsupported form and its position
--   Surveys          indices of data segments
--   Tree             short names of the AST types
--   Private          definitions for private functions
pub mod FirstUncovered
pub mod IllFormed
pub mod Private
pub mod Surveys
pub mod Tree
pub mod Visits
