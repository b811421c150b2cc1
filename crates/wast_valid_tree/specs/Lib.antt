-- The function bodies of a resolved module.
--
-- - Values: types and instructions as the validator sees them. Tree: short names of the types of the AST.
pub mod Tree
pub mod Values
