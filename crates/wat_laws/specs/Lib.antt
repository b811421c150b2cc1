-- The statement of this crate:
--   Lengths          how many tokens an instruction takes
pub mod Lengths
