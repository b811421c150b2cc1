-- The definitions of labels.
--
-- - OpenBlocks: depths. Asked: the checks E4 and E8. Turns: the enclosing blocks at a position, by counting and by
--   walking.
-- - Laws: the theorems that relate them. Indexed, Marks: the index and the marks of `Labels`. Worked: an example that
--   computes.
pub mod Asked
pub mod Indexed
pub mod Laws
pub mod Marks
pub mod OpenBlocks
pub mod Turns
pub mod Worked
