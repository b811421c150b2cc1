-- The definitions of this crate:
--   Demands         the checks E1 to E9 as one list, and the conditions for E10
--   Early           the checks that need no resolving
--   Explicit        the fields after desugaring
--   Finished        the fields after resolving, with generated ids
--   ImportOrder     the check that imports come first (E1)
--   Matches         when an inline type matches a type
--   Resolved        the fields with numbers for ids
--   Scopes          the data of a module that checks read
--   Stripped        resolved fields without generated ids
--   Tree            the AST types under short names
--   Worked..        example modules with their errors and results
pub mod Demands
pub mod Early
pub mod Explicit
pub mod Finished
pub mod ImportOrder
pub mod Matches
pub mod Resolved
pub mod Scopes
pub mod Stripped
pub mod Tree
pub mod WorkedAnswers
pub mod WorkedBodies
pub mod WorkedEarly
pub mod WorkedFields
pub mod WorkedImports
pub mod WorkedUnknowns
