use Rattle.wast_core.proofs.EntriesComputed as computed
use Rattle.wast_core.proofs.examples.worked_entries.Goals as goal

pub returns-clause-imports : goal.returns-clause-imports
returns-clause-imports c = computed.imported_entities

pub returns-clause-data : goal.returns-clause-data
returns-clause-data c = computed.memory_and_data

pub returns-clause-elements : goal.returns-clause-elements
returns-clause-elements c = computed.table_and_elements

pub returns-clause-starts : goal.returns-clause-starts
returns-clause-starts c = computed.two_starts
