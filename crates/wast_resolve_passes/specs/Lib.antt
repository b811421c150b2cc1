-- The definitions that the contracts of this crate use:
--   Locals          the ids of parameters and locals
--   NumberedBodies  function bodies that a walk may skip
--   Standing        the context of an instruction
--   Tree            the AST types under short names
--   TwoSteps        parts that are walked in two steps
pub mod Locals
pub mod NumberedBodies
pub mod Standing
pub mod Tree
pub mod TwoSteps
