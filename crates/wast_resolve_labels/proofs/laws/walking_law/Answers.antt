use Rattle.wast_resolve_labels.proofs.Counting.{one_step, walked_all, few_blocks, room_for_one}
use Rattle.wast_resolve_labels.proofs.Lasts.{denotes_the_last, denotes_nothing}
use Rattle.wast_resolve_labels.proofs.laws.walking_law.Goals as goal

pub returns-clause-step : goal.returns-clause-step
returns-clause-step c = one_step

pub returns-clause-walk : goal.returns-clause-walk
returns-clause-walk c = walked_all

pub returns-clause-few : goal.returns-clause-few
returns-clause-few c = few_blocks

pub returns-clause-room : goal.returns-clause-room
returns-clause-room c = room_for_one

pub returns-clause-denotes : goal.returns-clause-denotes
returns-clause-denotes c = denotes_the_last

pub returns-clause-denotes_nothing : goal.returns-clause-denotes_nothing
returns-clause-denotes_nothing c = denotes_nothing
