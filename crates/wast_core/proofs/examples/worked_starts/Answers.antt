use Rattle.wast_core.proofs.StartsComputed as computed
use Rattle.wast_core.proofs.examples.worked_starts.Goals as goal

pub returns-clause-row27 : goal.returns-clause-row27
returns-clause-row27 c = computed.row27
