-- The definitions of type uses, and those that the contracts of this crate use:
--   Tree              the AST types under short names
--   Signatures        signatures of function types, and when two are equal
--   SignatureLaws     equality of signatures is an equivalence; equal signatures have equal hashes
--   SignatureOrder    the order of signatures in maps
--   NeedingUses       the type uses that need a type
--   Numbers           signatures with ids of source types replaced by numbers
--   EligibleTypes     the types that a type use can resolve to
--   ImpliedTypes      the types that are appended
--   TypeSpace         the index of each type
--   Expanders         the model of `Expander`: signatures with indices
--   Hashed            how `Expander` stores them
--   Expanded          the whole list of fields after type uses are resolved
--   Completed         the fields with the appended types, without generated ids
--   Positioned        the same, with type uses resolved to positions
--   WorkedExpansions  example modules with their results
pub mod Tree
pub mod Signatures
pub mod SignatureLaws
pub mod SignatureOrder
pub mod NeedingUses
pub mod Numbers
pub mod EligibleTypes
pub mod ImpliedTypes
pub mod TypeSpace
pub mod Expanders
pub mod Hashed
pub mod Expanded
pub mod Completed
pub mod Positioned
pub mod WorkedExpansions
