pub mod RowNumbers
pub mod SampledForms
