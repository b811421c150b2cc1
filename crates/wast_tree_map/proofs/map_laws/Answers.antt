use Rattle.wast_tree_map.proofs.Laws as law
use Rattle.wast_tree_map.proofs.Alone.{written_alone, items_alone, items_named}
use Rattle.wast_tree_map.proofs.map_laws.Goals as goal

pub returns-clause-stands : goal.returns-clause-stands
returns-clause-stands c = law.stands

pub returns-clause-still : goal.returns-clause-still
returns-clause-still c = law.still

pub returns-clause-joins : goal.returns-clause-joins
returns-clause-joins c = law.joins

pub returns-clause-twice : goal.returns-clause-twice
returns-clause-twice c = law.twice

pub returns-clause-alike : goal.returns-clause-alike
returns-clause-alike c = law.alike

pub returns-clause-written_out : goal.returns-clause-written_out
returns-clause-written_out c = written_alone

pub returns-clause-items : goal.returns-clause-items
returns-clause-items c = items_alone

pub returns-clause-stands_named : goal.returns-clause-stands_named
returns-clause-stands_named c = law.stands_named

pub returns-clause-joins_named : goal.returns-clause-joins_named
returns-clause-joins_named c = law.joins_named

pub returns-clause-items_named : goal.returns-clause-items_named
returns-clause-items_named c = items_named
