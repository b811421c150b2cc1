-- The definitions of ranges of fields: FieldRanges.
pub mod FieldRanges
