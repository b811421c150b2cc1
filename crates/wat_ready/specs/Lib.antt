-- The statements of this crate:
--   Erasing        the change that sets the address of every id to 0
--   Ready          what the rules read is well formed, and has no generated id
--   Shown          trees without the addresses of their names and strings
--   ShownSites     the sites of such trees
pub mod Erasing
pub mod Ready
pub mod Shown
pub mod ShownSites
