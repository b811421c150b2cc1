-- The definitions that the contracts of this crate use, besides those of wast_expand_keys:
--   Tree              the AST types under short names
--   TypeItems         errors while ids of types are collected
--   Binding           how type uses are resolved one after another
--   Laws              theorems about the result
pub mod Tree
pub mod TypeItems
pub mod Binding
pub mod Laws
