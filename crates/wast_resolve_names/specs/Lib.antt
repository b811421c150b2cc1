-- The definitions that the contracts of this crate use:
--   Gathers    collecting the items of each index space
--   Guesses    cached positions of ids
--   Laws       theorems about types that are resolved with a resolver
--   LookUps    what a look-up of an index requires and returns
--   Resolvers  the model of `Resolver`
--   Tree       the AST types under short names
--   Walking    the effect of a walk over a part of the tree
pub mod Gathers
pub mod Guesses
pub mod Laws
pub mod LookUps
pub mod Resolvers
pub mod Tree
pub mod Walking
