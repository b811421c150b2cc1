use Rattle.std.proofs.Common.{◌≡◌, ◌+◌, length, sym, subst}
use Rattle.std.specs.Prelude.{IfOk}
use Rattle.wasm_out.specs.NameSectionBytes.{name_entry}
use Rattle.wast_tree_nodes.specs.Imports.{item_sigs}
use Rattle.wast_core_name_section.specs.FoundNames.{saturated_count, WritesItems}
use Rattle.wast_core_name_section.specs.ModuleNames.{type_name, sig_name, item_names_in}
use Rattle.wast_core_name_section.proofs.NameMaps.{names_of_each}
use Rattle.wast_core_name_section.proofs.names_payload.SpaceNameItemsModuleField.put.Goals as goal

pub returns-in-Types-clause-written : goal.returns-in-Types-clause-written
returns-in-Types-clause-written g c =
    subst (λ z. WritesItems g.S.Sink.rules (λ x. (name_entry x).bytes)
    (λ x. (name_entry x).in_range) z c.args.position c.args.out.now c.put_each.new.out c.put_each.result)
    (sym (names_of_each c.args.self.now type_name c.in-Types.types.now (item_names_in c.args.part.now) c.in-Types.ensures)) c.put_each.ensures.written

pub returns-in-Types-clause-next : goal.returns-in-Types-clause-next
returns-in-Types-clause-next g c =
    subst (λ z. IfOk c.put_each.result (λ p. p ≡ saturated_count (c.args.position + length z)))
    (sym (names_of_each c.args.self.now type_name c.in-Types.types.now (item_names_in c.args.part.now) c.in-Types.ensures)) c.put_each.ensures.next

pub returns-in-Imported-clause-written : goal.returns-in-Imported-clause-written
returns-in-Imported-clause-written g c =
    subst (λ z. WritesItems g.S.Sink.rules (λ x. (name_entry x).bytes)
    (λ x. (name_entry x).in_range) z c.args.position c.args.out.now c.put_imported.new.out c.put_imported.result)
    (sym (names_of_each c.args.self.now sig_name (item_sigs c.in-Imported.items.now) (item_names_in c.args.part.now) c.in-Imported.ensures))
    c.put_imported.ensures.written

pub returns-in-Imported-clause-next : goal.returns-in-Imported-clause-next
returns-in-Imported-clause-next g c =
    subst (λ z. IfOk c.put_imported.result (λ p. p ≡ saturated_count (c.args.position + length z)))
    (sym (names_of_each c.args.self.now sig_name (item_sigs c.in-Imported.items.now) (item_names_in c.args.part.now) c.in-Imported.ensures))
    c.put_imported.ensures.next
