use Rattle.wasm_ops.proofs.Codes.{name_code}
use Rattle.wasm_ops.proofs.ControlCodes.{block_type_code, catch_code}
use Rattle.wasm_ops.proofs.EntityCodes.{table_type_code, memory_type_code, global_type_code, tag_type_code, entity_type_code}
use Rattle.wasm_ops.proofs.RefTypeCodes.{heap_type_code, ref_type_code}
use Rattle.wasm_ops.proofs.TypeCodes.{val_type_code, storage_type_code, field_type_code, export_kind_code, func_type_code, struct_type_code}
use Rattle.wasm_ops.proofs.TypeCodes.{array_type_code, composite_type_code, sub_type_code}
use Rattle.wasm_ops.proofs.laws.type_spelling_law.Goals as goal

pub returns-clause-names : goal.returns-clause-names
returns-clause-names c = name_code

pub returns-clause-heap_types : goal.returns-clause-heap_types
returns-clause-heap_types c = heap_type_code

pub returns-clause-ref_types : goal.returns-clause-ref_types
returns-clause-ref_types c = ref_type_code

pub returns-clause-val_types : goal.returns-clause-val_types
returns-clause-val_types c = val_type_code

pub returns-clause-block_types : goal.returns-clause-block_types
returns-clause-block_types c = block_type_code

pub returns-clause-catches : goal.returns-clause-catches
returns-clause-catches c = catch_code

pub returns-clause-storage_types : goal.returns-clause-storage_types
returns-clause-storage_types c = storage_type_code

pub returns-clause-field_types : goal.returns-clause-field_types
returns-clause-field_types c = field_type_code

pub returns-clause-export_kinds : goal.returns-clause-export_kinds
returns-clause-export_kinds c = export_kind_code

pub returns-clause-func_types : goal.returns-clause-func_types
returns-clause-func_types c = func_type_code

pub returns-clause-struct_types : goal.returns-clause-struct_types
returns-clause-struct_types c = struct_type_code

pub returns-clause-array_types : goal.returns-clause-array_types
returns-clause-array_types c = array_type_code

pub returns-clause-composite_types : goal.returns-clause-composite_types
returns-clause-composite_types c = composite_type_code

pub returns-clause-sub_types : goal.returns-clause-sub_types
returns-clause-sub_types c = sub_type_code

pub returns-clause-table_types : goal.returns-clause-table_types
returns-clause-table_types c = table_type_code

pub returns-clause-memory_types : goal.returns-clause-memory_types
returns-clause-memory_types c = memory_type_code

pub returns-clause-global_types : goal.returns-clause-global_types
returns-clause-global_types c = global_type_code

pub returns-clause-tag_types : goal.returns-clause-tag_types
returns-clause-tag_types c = tag_type_code

pub returns-clause-entity_types : goal.returns-clause-entity_types
returns-clause-entity_types c = entity_type_code
