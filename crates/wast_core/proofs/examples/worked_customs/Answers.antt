use Rattle.wast_core.proofs.CustomsComputed as computed
use Rattle.wast_core.proofs.examples.worked_customs.Goals as goal

pub returns-clause-own_names : goal.returns-clause-own_names
returns-clause-own_names c = computed.own_names

pub returns-clause-row29 : goal.returns-clause-row29
returns-clause-row29 c = computed.row29

pub returns-clause-row51 : goal.returns-clause-row51
returns-clause-row51 c = computed.row51

pub returns-clause-row52 : goal.returns-clause-row52
returns-clause-row52 c = computed.row52

pub returns-clause-row53 : goal.returns-clause-row53
returns-clause-row53 c = computed.row53
