use Rattle.wast_core.proofs.BlocksComputed as computed
use Rattle.wast_core.proofs.examples.worked_blocks.Goals as goal

pub returns-clause-row28 : goal.returns-clause-row28
returns-clause-row28 c = computed.row28

pub returns-clause-row55 : goal.returns-clause-row55
returns-clause-row55 c = computed.row55

pub returns-clause-row56 : goal.returns-clause-row56
returns-clause-row56 c = computed.row56
