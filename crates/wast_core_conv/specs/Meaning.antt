-- Re-exports the conversions of this crate, so that contracts need one name: `Values` has types and instructions, and
-- `FieldEntries` has entries of sections.
pub use Rattle.wast_core_conv.specs.Values.{index_value, as_abstract_type, as_heap_type, as_ref_type, as_val_type, as_storage_type, as_field_type, as_struct_type, as_array_type, as_func_type, as_cont_type, as_inner_type, as_sub_type, type_index, as_table_type, as_ordering, as_mem_arg_ordering, fence_ordering, as_handle, as_mem_arg_target, as_mem_arg, i8_bytes, i16_bytes, i32_bytes, i64_bytes, f32_bytes, f64_bytes, lane_bytes, as_v128, short_block_type, short_type, as_block_type, as_catch, as_memory_type, as_global_type, as_tag_type, as_entity_type, as_instr, as_expression, body_of, as_body, as_export_kind}
pub use Rattle.wast_core_conv.specs.FieldEntries.{as_group, as_import, as_table, as_memory, as_global, as_tag, as_export, as_element_items, as_element_mode, as_element, as_data_mode, as_data}
