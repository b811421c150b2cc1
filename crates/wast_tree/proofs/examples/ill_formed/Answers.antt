use Rattle.wast_tree.proofs.Worked.{ill_formed_clauses, first_is_ill_formed}
use Rattle.wast_tree.proofs.examples.ill_formed.Goals as goal

pub returns-clause-clauses : goal.returns-clause-clauses
returns-clause-clauses c = ill_formed_clauses

pub returns-clause-first : goal.returns-clause-first
returns-clause-first c = first_is_ill_formed
