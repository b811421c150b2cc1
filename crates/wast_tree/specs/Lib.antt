-- Definitions of this crate. Those that contracts of the AST name are in wast_base, wast_tree_nodes, wast_tree_build and
-- wast_tree_visit.
--
--   Private   examples that compute, for private functions
--   Tree      short names of the AST types
pub mod Private
pub mod Tree
