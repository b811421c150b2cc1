use Rattle.wast_core_name_section.proofs.NamesComputed as computed
use Rattle.wast_core_name_section.proofs.examples.worked_names.Goals as goal

pub returns-clause-row34 : goal.returns-clause-row34
returns-clause-row34 c = computed.row34

pub returns-clause-row35 : goal.returns-clause-row35
returns-clause-row35 c = computed.row35

pub returns-clause-inline : goal.returns-clause-inline
returns-clause-inline c = computed.inline_parameter

pub returns-clause-group : goal.returns-clause-group
returns-clause-group c = computed.second_of_group

pub returns-clause-nothing : goal.returns-clause-nothing
returns-clause-nothing c = computed.no_function_type

pub returns-clause-generated : goal.returns-clause-generated
returns-clause-generated c = computed.generated_field

pub returns-clause-global : goal.returns-clause-global
returns-clause-global c = computed.named_global

pub returns-clause-imported : goal.returns-clause-imported
returns-clause-imported c = computed.imported_function

pub returns-clause-spaces : goal.returns-clause-spaces
returns-clause-spaces c = computed.each_space

pub returns-clause-import_parameter : goal.returns-clause-import_parameter
returns-clause-import_parameter c = computed.imported_parameter

pub returns-clause-tag_parameter : goal.returns-clause-tag_parameter
returns-clause-tag_parameter c = computed.tag_parameter

pub returns-clause-labels : goal.returns-clause-labels
returns-clause-labels c = computed.named_labels

pub returns-clause-grouped_import : goal.returns-clause-grouped_import
returns-clause-grouped_import c = computed.grouped_import

pub returns-clause-shared_signature : goal.returns-clause-shared_signature
returns-clause-shared_signature c = computed.shared_signature
