use Rattle.std.proofs.Common.{◌∙◌, sym, ap, length}
use Rattle.wast_tree_nodes.specs.Imports.{item_sigs}
use Rattle.wast_core_name_section.specs.FoundNames.{saturated_count}
use Rattle.wast_core_name_section.specs.ModuleNames.{type_name, sig_name, item_names_in}
use Rattle.wast_core_name_section.specs.GivenNames.{named_from}
use Rattle.wast_core_name_section.proofs.NameMaps.{names_of_each}
use Rattle.wast_core_name_section.proofs.names_payload.SpaceCountItemsModuleField.count.Goals as goal

pub returns-in-Types : goal.returns-in-Types
returns-in-Types c =
    c.count_each.ensures ∙ ap (λ z. saturated_count (length (named_from 0 z)))
    (sym (names_of_each c.args.self.now type_name c.in-Types.types.now (item_names_in c.args.part.now) c.in-Types.ensures))

pub returns-in-Imported : goal.returns-in-Imported
returns-in-Imported c =
    c.count_imported.ensures ∙ ap (λ z. saturated_count (length (named_from 0 z)))
    (sym (names_of_each c.args.self.now sig_name (item_sigs c.in-Imported.items.now) (item_names_in c.args.part.now) c.in-Imported.ensures))
