use Rattle.wast_core.proofs.CountsComputed as computed
use Rattle.wast_core.proofs.examples.worked_counts.Goals as goal

pub returns-clause-counted : goal.returns-clause-counted
returns-clause-counted c = computed.counted_data

pub returns-clause-none : goal.returns-clause-none
returns-clause-none c = computed.counted_none

pub returns-clause-uncounted : goal.returns-clause-uncounted
returns-clause-uncounted c = computed.uncounted_data
