-- The definitions of namespaces.
--
-- - Namespaces: the model, and the checks E2 and E3. Places: searching in sorted names.
-- - Filling: building a namespace from all items. Heads: prefix keys.
pub mod Filling
pub mod Heads
pub mod Namespaces
pub mod Places
