use Rattle.wast_core.proofs.ResolvingComputed as computed
use Rattle.wast_core.proofs.examples.worked_resolving.Goals as goal

pub returns-clause-ready : goal.returns-clause-ready
returns-clause-ready c = computed.ready_modules

pub returns-clause-names : goal.returns-clause-names
returns-clause-names c = computed.known_names27

pub returns-clause-resolved : goal.returns-clause-resolved
returns-clause-resolved c = computed.resolved_modules
