use Rattle.wast_core.proofs.FiniteNames.{renames_finitely}
use Rattle.wast_core.proofs.OtherForms.{renamed_forms, written_forms}
use Rattle.wast_core.proofs.RenamedFronts.{renamed_parts, written_means, same_front, written_front}
use Rattle.wast_core.proofs.laws.renaming.Goals as goal

pub returns-clause-parts : goal.returns-clause-parts
returns-clause-parts c = renamed_parts c.naming_laws.ensures.positions

pub returns-clause-bytes : goal.returns-clause-bytes
returns-clause-bytes c = same_front c.naming_laws.ensures.positions

pub returns-clause-written_parts : goal.returns-clause-written_parts
returns-clause-written_parts c = written_means c.naming_laws.ensures.positions c.naming_laws.ensures.written_positions

pub returns-clause-written_bytes : goal.returns-clause-written_bytes
returns-clause-written_bytes c = written_front c.naming_laws.ensures.positions c.naming_laws.ensures.written_positions

pub returns-clause-uncovered : goal.returns-clause-uncovered
returns-clause-uncovered c = renamed_forms c.resolved_laws.ensures.positions c.naming_laws.ensures.answer c.naming_laws.ensures.positions

pub returns-clause-written_uncovered : goal.returns-clause-written_uncovered
returns-clause-written_uncovered c =
    let names = c.naming_laws.ensures in
    written_forms c.resolved_laws.ensures.positions names.answer names.positions names.written names.written_positions

pub returns-clause-finite : goal.returns-clause-finite
returns-clause-finite c = renames_finitely c.naming_laws.ensures.injective
