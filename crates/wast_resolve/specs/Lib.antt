-- The definitions that the contracts of this crate use:
--   Laws          which ids names know after resolving
--   Stable        function bodies that resolving does not change
--   Tree          the AST types under short names
--   WorkedStable  function bodies that `Stable` tests
pub mod Laws
pub mod Stable
pub mod Tree
pub mod WorkedStable
