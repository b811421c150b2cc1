use Rattle.std.proofs.Common.{ap, ◌∙◌, ◌∷◌, []}
use Rattle.std.specs.List.{flat_map}
use Rattle.wast_core_name_section.specs.GivenNames.{named_from}
use Rattle.wast_core_name_section.specs.WithinItems.{field_name}
use Rattle.wast_core_name_section.proofs.ListedNames.{each_named}
use Rattle.wast_core_name_section.proofs.within.field_names_of.Goals as goal

pub returns-in-Struct : goal.returns-in-Struct
returns-in-Struct c =
    rw c.in-Struct.is (ap (λ fs. named_from 0 (flat_map (λ f. field_name f ∷ []) fs)) c.as_slice.ensures ∙ each_named 0 field_name c.in-Struct.ty.fields)
