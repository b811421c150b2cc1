use Rattle.wast_core.proofs.AtRest.{starts_last, numbers_last, rests_withheld, second_resolve, second_encoding}
use Rattle.wast_core.proofs.ByPosition.{written_where_meant}
use Rattle.wast_core.proofs.RestsBounded.{rests_bounded}
use Rattle.wast_core.proofs.rests.at_rest.Goals as goal

pub returns-clause-starts_last : goal.returns-clause-starts_last
returns-clause-starts_last c =
    starts_last c.resting_laws.ensures.starts_met c.resting_laws.ensures.starts c.resting_laws.ensures.by_position c.meaning_law.ensures

pub returns-clause-numbers_last : goal.returns-clause-numbers_last
returns-clause-numbers_last c =
    numbers_last c.resting_laws.ensures.below
    (starts_last c.resting_laws.ensures.starts_met c.resting_laws.ensures.starts c.resting_laws.ensures.by_position c.meaning_law.ensures)

pub returns-clause-withheld : goal.returns-clause-withheld
returns-clause-withheld c = rests_withheld c.resting_laws.ensures.met

pub returns-clause-second_resolve : goal.returns-clause-second_resolve
returns-clause-second_resolve c =
    second_resolve c.resting_laws.ensures.met c.resting_laws.ensures.still c.resting_laws.ensures.fills c.resolved_laws.ensures.items

pub returns-clause-second_encoding : goal.returns-clause-second_encoding
returns-clause-second_encoding c =
    second_encoding c.resting_laws.ensures.met c.resting_laws.ensures.still c.resting_laws.ensures.by_position c.bounded_law.ensures
    c.meaning_law.ensures c.one_meaning.ensures.one_spelling

pub returns-clause-bounded : goal.returns-clause-bounded
returns-clause-bounded c =
    let laws = c.resolved_laws.ensures in
    rests_bounded laws.counts laws.bodies laws.items c.resting_laws.ensures.by_position c.resting_laws.ensures.fills (written_where_meant laws.positions)
