use Rattle.wast_core.proofs.AgainComputed as computed
use Rattle.wast_core.proofs.examples.worked_again.Goals as goal

pub returns-clause-resolved : goal.returns-clause-resolved
returns-clause-resolved c = computed.resolved_again

pub returns-clause-encoded : goal.returns-clause-encoded
returns-clause-encoded c = computed.encoded_again

pub returns-clause-row9 : goal.returns-clause-row9
returns-clause-row9 c = computed.row9

pub returns-clause-row48 : goal.returns-clause-row48
returns-clause-row48 c = computed.row48
