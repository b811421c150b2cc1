-- The statements of this crate:
--   Extended        a finite map of names, and its extension to all names
--   Laws            resolved fields, enclosing blocks, errors before resolving
--   Renaming        modules with other ids
--   Rests           resolved fields that are resolved again
--   Tree            the AST types under short names
--   WorkedRenaming  example modules with other ids
--   WorkedRests     resolved example modules
pub mod Extended
pub mod Laws
pub mod Renaming
pub mod Rests
pub mod Tree
pub mod WorkedRenaming
pub mod WorkedRests
