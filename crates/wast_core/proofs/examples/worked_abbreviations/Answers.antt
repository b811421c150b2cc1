use Rattle.wast_core.proofs.AbbreviationsComputed as computed
use Rattle.wast_core.proofs.examples.worked_abbreviations.Goals as goal

pub returns-clause-row4 : goal.returns-clause-row4
returns-clause-row4 c = computed.row4

pub returns-clause-row5 : goal.returns-clause-row5
returns-clause-row5 c = computed.row5

pub returns-clause-row6 : goal.returns-clause-row6
returns-clause-row6 c = computed.row6

pub returns-clause-row44 : goal.returns-clause-row44
returns-clause-row44 c = computed.row44
