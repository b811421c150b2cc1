use Rattle.wast_core.proofs.FrontsComputed as computed
use Rattle.wast_core.proofs.examples.worked_fronts.Goals as goal

pub returns-clause-row27 : goal.returns-clause-row27
returns-clause-row27 c = computed.row27

pub returns-clause-row9 : goal.returns-clause-row9
returns-clause-row9 c = computed.row9

pub returns-clause-row48 : goal.returns-clause-row48
returns-clause-row48 c = computed.row48
