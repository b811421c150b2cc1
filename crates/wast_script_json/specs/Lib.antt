-- The definitions that contracts of this crate name.
--
--   Json              strings, numbers and members of objects
--   Values            arguments and results
--   Entries           what each command is: its type, its module or action, its message and results
--   Commands          the object of each command
--   Exports           the types of the results of an export
--   References        what commands refer to
--   Files             the whole JSON of a script, and how it is written in pieces
--   Known             how the code keeps what commands refer to
--   Places            the position that lines were counted up to
--   WorkedJson        examples that compute
--   WorkedValues      examples that compute
--   WorkedCommands    examples that compute
--   WorkedReferences  examples that compute
pub mod Commands
pub mod Entries
pub mod Exports
pub mod Files
pub mod Json
pub mod Known
pub mod Places
pub mod References
pub mod Values
pub mod WorkedCommands
pub mod WorkedJson
pub mod WorkedReferences
pub mod WorkedValues
