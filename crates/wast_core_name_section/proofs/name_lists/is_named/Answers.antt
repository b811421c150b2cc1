use Rattle.std.proofs.Common.{◌∙◌, ◌∷◌, [], ap, nat_lt}
use Rattle.std.specs.List.{flat_map}
use Rattle.wast_core_name_section.specs.WithinItems.{param_name, local_name, label_in}
use Rattle.wast_core_name_section.proofs.NameEntries.{as_many}
use Rattle.wast_core_name_section.proofs.ListedNames.{either_named}
use Rattle.wast_core_name_section.proofs.name_lists.is_named.Goals as goal

pub returns-in-Locals : goal.returns-in-Locals
returns-in-Locals c =
    let params = flat_map (λ p. param_name p ∷ []) c.in-Locals.params.now in
    let locals = flat_map (λ l. local_name l ∷ []) c.in-Locals.locals.now in
    rw (c.in-Locals.is, c.any_named-in-Locals.ensures, c.any_named-in-Locals-2.ensures) (either_named params locals c.in-Locals.field-1)

pub returns-in-Labels : goal.returns-in-Labels
returns-in-Labels c =
    rw c.in-Labels.is (c.any_named-in-Labels.ensures ∙ ap (nat_lt 0) (as_many 0 c.in-Labels.field-0 (flat_map label_in c.in-Labels.instrs.now)))
