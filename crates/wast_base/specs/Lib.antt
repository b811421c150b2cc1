-- The definitions that contracts of this crate and of the crates above name.
--
--   Ids          names, ids and indices, and when two are the same
--   Order        the order of names, and the position of a name in a sorted list
--   Spaces       the index spaces, and the item that a name refers to
--   Denoted      the number that an index refers to
--   Gensym       the id counter
--   Filling      generated ids for a list of items
--   Faults       the errors E1 to E13 and their messages
--   FirstUnmet   checks, and the first that fails
--   Outcomes     results of calls that may fail with it
--   Blocks       blocks of an expression, and whether they are balanced
--   Lending      `&mut` into a `Seq` or a `Boxed`
--   Lines        the line and column of a position
--   Worked       examples that compute
pub mod Blocks
pub mod Denoted
pub mod Faults
pub mod Filling
pub mod FirstUnmet
pub mod Gensym
pub mod Ids
pub mod Lending
pub mod Lines
pub mod Order
pub mod Outcomes
pub mod Spaces
pub mod Worked
