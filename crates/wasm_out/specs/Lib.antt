-- The definitions of sections, function bodies, custom sections and modules.
--
-- - Parts, Readable, Reads: the items and bytes of each section, and reading bytes as a module.
-- - Bodies: function bodies. ElementSegments, DataSegments: the segments in each form.
-- - Built, BuiltElements, BuiltData: the contracts of methods that add an item.
-- - NameSectionBytes, Producers, Hints: custom sections.
-- - WorkedBytes, WorkedInstrs: examples that compute.
pub mod Bodies
pub mod Built
pub mod BuiltData
pub mod BuiltElements
pub mod DataSegments
pub mod ElementSegments
pub mod WorkedBytes
pub mod WorkedInstrs
pub mod Hints
pub mod NameSectionBytes
pub mod Parts
pub mod Producers
pub mod Readable
pub mod Reads
