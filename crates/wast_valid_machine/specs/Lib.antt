-- The machine that validates function bodies.
--
-- - Checks: checks in sequence. Reports: the errors of code, compared to those of a definition.
-- - Types: subtyping. Groups: equal recursive types.
-- - Machine: the operand stack and the control frames. Control: blocks, labels and branches. Lookups: items of a context.
pub mod Checks
pub mod Control
pub mod Groups
pub mod Lookups
pub mod Machine
pub mod Reports
pub mod Types
