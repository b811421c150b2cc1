-- Validity of function bodies.
--
-- - Rows: the operands and results of instructions without immediates, and the accesses of loads and stores. Steps: one instruction.
--   Bodies: the first violation of a body.
-- - Worked: bodies that compute.
pub mod Bodies
pub mod Rows
pub mod Steps
pub mod Worked
