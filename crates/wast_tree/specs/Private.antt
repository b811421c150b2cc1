-- Definitions that only contracts of private functions name. Callers need none of them.
pub mod Examples
pub mod Instructions
