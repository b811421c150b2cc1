-- The proofs of this crate: Shrinks has the rules of wat_syntax one after another, and Fewer the words in which it is written.
pub mod Fewer
pub mod Shrinks
