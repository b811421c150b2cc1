use Rattle.wast_expand_types.proofs.AtRest.{stays_expanded}
use Rattle.wast_expand_types.proofs.AtItsIndex.{takes_the_type_at_its_index}
use Rattle.wast_expand_types.proofs.laws.expanded_laws.Goals as goal

pub returns-clause-stays : goal.returns-clause-stays
returns-clause-stays c = stays_expanded

pub returns-clause-index : goal.returns-clause-index
returns-clause-index c = takes_the_type_at_its_index
