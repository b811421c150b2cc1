use Rattle.wat_meaning.proofs.WorkedMeanings.{two_trees}
use Rattle.wat_meaning.proofs.examples.worked_meanings.Goals as goal

pub returns : goal.returns
returns c = two_trees
