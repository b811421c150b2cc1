use Rattle.std.proofs.Common.{◌∙◌, ◌∷◌, [], append-nil}
use Rattle.std.specs.List.{flat_map}
use Rattle.wast_core_name_section.specs.GivenNames.{named_from}
use Rattle.wast_core_name_section.specs.WithinItems.{param_name}
use Rattle.wast_core_name_section.proofs.ListedNames.{each_named}
use Rattle.wast_core_name_section.proofs.within.params_in.Goals as goal

pub returns : goal.returns
returns c =
    let params = c.args.ty.now.params in
    rw (c.as_slice.ensures, c.none.ensures) (append-nil (named_from 0 (flat_map (λ p. param_name p ∷ []) params)) ∙ each_named 0 param_name params)
