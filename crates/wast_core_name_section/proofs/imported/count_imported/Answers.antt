use Rattle.std.proofs.Common.{◌∙◌, ap, length}
use Rattle.wast_core_name_section.specs.FoundNames.{saturated_count}
use Rattle.wast_core_name_section.specs.GivenNames.{named_from}
use Rattle.wast_core_name_section.proofs.ImportedNames.{in_sigs}
use Rattle.wast_core_name_section.proofs.imported.count_imported.Goals as goal

pub returns-in-Group1 : goal.returns-in-Group1
returns-in-Group1 g c =
    rw c.in-Group1.is (c.count_each-in-Group1.ensures
    ∙ ap (λ z. saturated_count (length (named_from 0 z)))
    (in_sigs (g.W.NameItems.items c.args.way) (λ p. p.1) c.as_slice.result.now c.in-Group1.items c.as_slice.ensures))

pub returns-in-Group2 : goal.returns-in-Group2
returns-in-Group2 g c =
    rw c.in-Group2.is (c.count_each-in-Group2.ensures
    ∙ ap (λ z. saturated_count (length (named_from 0 z)))
    (in_sigs (g.W.NameItems.items c.args.way) (λ name. c.in-Group2.sig) c.as_slice-in-Group2.result.now c.in-Group2.items c.as_slice-in-Group2.ensures))
