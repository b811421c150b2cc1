use Rattle.wast_core.proofs.Worked as worked
use Rattle.wast_core.proofs.examples.worked_modules.Goals as goal

pub returns-clause-row1 : goal.returns-clause-row1
returns-clause-row1 c = worked.row1

pub returns-clause-row2 : goal.returns-clause-row2
returns-clause-row2 c = worked.row2

pub returns-clause-row8 : goal.returns-clause-row8
returns-clause-row8 c = worked.row8

pub returns-clause-row24 : goal.returns-clause-row24
returns-clause-row24 c = worked.row24

pub returns-clause-row27 : goal.returns-clause-row27
returns-clause-row27 c = worked.row27

pub returns-clause-annotated : goal.returns-clause-annotated
returns-clause-annotated c = worked.annotated_function

pub returns-clause-second : goal.returns-clause-second
returns-clause-second c = worked.second_named

pub returns-clause-long : goal.returns-clause-long
returns-clause-long c = worked.long_section
