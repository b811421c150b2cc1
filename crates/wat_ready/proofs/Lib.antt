-- The proofs of this crate: Ready has the statements. Parses, Checks and Nesting have the words in which the others are written, and Types,
-- Instructions, Bodies and Fields go rule by rule as in wat_syntax. Addresses is about trees with addresses: Erased sets those of ids to 0,
-- and the Shown files those of names and strings.
pub mod Addresses
pub mod Bodies
pub mod Checks
pub mod Erased
pub mod Fields
pub mod Instructions
pub mod Nesting
pub mod Parses
pub mod Ready
pub mod ShownLists
pub mod ShownSites
pub mod ShownTypeParts
pub mod Types
