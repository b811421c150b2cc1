use Rattle.wast_core.proofs.HintsComputed as computed
use Rattle.wast_core.proofs.examples.worked_hints.Goals as goal

pub returns-clause-row11 : goal.returns-clause-row11
returns-clause-row11 c = computed.row11

pub returns-clause-row54 : goal.returns-clause-row54
returns-clause-row54 c = computed.row54
