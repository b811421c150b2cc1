-- The definitions that contracts of this crate and of the crates above name.
--
--   Tree            short names of the AST types
--   Profiles        the kind, position and items of a field
--   Kinds           the kinds of fields, with their numbers
--   Items           the items of a module
--   Known           its identifier context
--   Sites           everything in a module that is checked, as one list
--   Clauses         rules of well-formedness for single parts
--   WellFormed      whether a module is well formed, and which rule it breaks
--   Uncovered       its unsupported constructs
--   Resolved        whether it is resolved
--   WrittenOut      whether it is desugared
--   Generations     the greatest generation of its ids
--   Types, Instrs, Imports, Customs, Hints, DataBytes     properties of single parts
--   WorkedModules   example modules
pub mod Clauses
pub mod Customs
pub mod DataBytes
pub mod Generations
pub mod Hints
pub mod Imports
pub mod Instrs
pub mod Items
pub mod Kinds
pub mod Known
pub mod Profiles
pub mod Resolved
pub mod Sites
pub mod Tree
pub mod Types
pub mod Uncovered
pub mod WellFormed
pub mod WorkedModules
pub mod WrittenOut
