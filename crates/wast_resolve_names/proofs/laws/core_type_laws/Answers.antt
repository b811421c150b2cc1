use Rattle.wast_resolve_core_types.proofs.PartsOfTypes.{type_part, def_part, signature_part, val_part, ref_part, heap_part, storage_part}
use Rattle.wast_resolve_names.proofs.CallingNames.{by_resolver, needs_of_resolver}
use Rattle.wast_resolve_names.proofs.laws.core_type_laws.Goals as goal

pub returns-clause-types : goal.returns-clause-types
returns-clause-types c = by_resolver type_part

pub returns-clause-defs : goal.returns-clause-defs
returns-clause-defs c = by_resolver def_part

pub returns-clause-functions : goal.returns-clause-functions
returns-clause-functions c = by_resolver signature_part

pub returns-clause-types_needs : goal.returns-clause-types_needs
returns-clause-types_needs c = needs_of_resolver type_part

pub returns-clause-defs_needs : goal.returns-clause-defs_needs
returns-clause-defs_needs c = needs_of_resolver def_part

pub returns-clause-functions_needs : goal.returns-clause-functions_needs
returns-clause-functions_needs c = needs_of_resolver signature_part

pub returns-clause-values : goal.returns-clause-values
returns-clause-values c = by_resolver val_part

pub returns-clause-references : goal.returns-clause-references
returns-clause-references c = by_resolver ref_part

pub returns-clause-heaps : goal.returns-clause-heaps
returns-clause-heaps c = by_resolver heap_part

pub returns-clause-storages : goal.returns-clause-storages
returns-clause-storages c = by_resolver storage_part
