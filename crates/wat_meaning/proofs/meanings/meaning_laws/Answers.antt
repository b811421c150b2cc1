use Rattle.wat_meaning.proofs.OneMeaning.{same_answer, same_meaning, same_forms, same_count, same_rules, same_generation, same_too_large, same_bounds}
use Rattle.wat_meaning.proofs.SameNumbers.{same_numbers}
use Rattle.wat_meaning.proofs.meanings.meaning_laws.Goals as goal

pub returns-clause-answer : goal.returns-clause-answer
returns-clause-answer c = same_answer c.naming_laws.ensures.answer

pub returns-clause-meaning : goal.returns-clause-meaning
returns-clause-meaning c = same_meaning c.naming_laws.ensures.positions

pub returns-clause-forms : goal.returns-clause-forms
returns-clause-forms c = same_forms c.renaming.ensures.uncovered

pub returns-clause-numbers : goal.returns-clause-numbers
returns-clause-numbers c = same_numbers

pub returns-clause-count : goal.returns-clause-count
returns-clause-count c = same_count c.naming_laws.ensures.filled

pub returns-clause-rules : goal.returns-clause-rules
returns-clause-rules c = same_rules

pub returns-clause-generation : goal.returns-clause-generation
returns-clause-generation c = same_generation

pub returns-clause-large : goal.returns-clause-large
returns-clause-large c = same_too_large c.naming_laws.ensures.large

pub returns-clause-bounds : goal.returns-clause-bounds
returns-clause-bounds c = same_bounds c.bounded_law.ensures c.naming_laws.ensures.large c.naming_laws.ensures.filled c.naming_laws.ensures.positions
