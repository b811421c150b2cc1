use Rattle.wast_tree.proofs.Worked.{instructions_ask}
use Rattle.wast_tree.proofs.examples.instructions.Goals as goal

pub returns : goal.returns
returns c = instructions_ask
