-- Once each index is a number, the expansion by ids has the numbers of the one by positions.
use Rattle.std.proofs.Common.{◌≡◌, ℕ, ◌<◌, List, None, sym, ap, ◌∙◌, arith}
use Rattle.wast_tree_nodes.specs.Items.{items}
use Rattle.wast_tree_nodes.specs.Known.{id_context}
use Rattle.wast_tree_nodes.specs.Sites.{in_module, checks_of}
use Rattle.wast_tree_nodes.specs.Generations.{greatest_asked, greatest_generation}
use Rattle.wast_tree_map.specs.Laws.{all_mapped}
use Rattle.wast_expand_inline.specs.Written.{desugared_from, desugared_by_position}
use Rattle.wast_expand_inline.proofs.Below.{written_out_below}
use Rattle.wast_expand_keys.specs.TypeSpace.{index_for}
use Rattle.wast_expand_keys.specs.Expanders.{LookUp}
use Rattle.wast_expand_keys.specs.Completed.{fields_with_implied_types}
use Rattle.wast_expand_keys.specs.Positioned.{position_for, fields_with_type_positions}
use Rattle.wast_resolve_laws.specs.Tree.{ModuleField}
use Rattle.wast_resolve_rules.specs.Demands.{first_unmet, item_demands, site_demands, order_demands, name_demands, demands}
use Rattle.wast_resolve_rules.specs.Scopes.{module_scope}
use Rattle.wast_resolve_rules.specs.Resolved.{resolved_fields}
use Rattle.wast_resolve_rules.specs.Stripped.{stripping}
use Rattle.wast_resolve_rules.proofs.Unmet.{met_parts}
use Rattle.wast_resolve_laws.proofs.CompletedAsks.{completed_below}
use Rattle.wast_resolve_laws.proofs.SameUses.{telling, all_same}
use Rattle.wast_resolve_laws.proofs.ByPosition.{told_positions, position_stays, asks_alike}
use Rattle.wast_resolve_laws.proofs.WrittenLooks.{alike_positions, alike_shapes, written_looks, completed_looks}
use Rattle.wast_resolve_laws.proofs.WrittenOwn.{completed_own}
use Rattle.wast_resolve_laws.proofs.WrittenTold.{told_alike}
use Rattle.wast_resolve_laws.proofs.WrittenItems.{written_position}

module _ (n : ℕ) (fields : List ModuleField) (above : greatest_generation fields < n)
    (met : first_unmet (demands (fields_with_implied_types (desugared_from n fields))) ≡ None) where
  abbrev new : List ModuleField
  new = fields_with_implied_types (desugared_from n fields)

  abbrev old : List ModuleField
  old = fields_with_implied_types (desugared_by_position fields)

  no_clash : first_unmet (item_demands (items new)) ≡ None
  no_clash = (met_parts (item_demands (items new)) (site_demands (module_scope new) (in_module new)) (met_parts (order_demands new) (name_demands new) met).1).0

  pub written_positions : all_mapped stripping (resolved_fields (fields_with_type_positions (desugared_from n fields))) ≡ all_mapped stripping
      (resolved_fields (fields_with_type_positions (desugared_by_position fields)))
  written_positions =
      let find : LookUp = position_for (desugared_by_position fields) in
      let as_old : greatest_asked (checks_of (in_module old)) < n = completed_below n (desugared_by_position fields)
      (written_out_below n fields (omega (arith, above))) in
      told_positions (desugared_from n fields)
      ∙ (ap (λ (f : LookUp). all_mapped (telling (module_scope new) f) new) (alike_positions (written_looks n fields))
      ∙ (told_alike (id_context (items new)) (telling (module_scope new) find).used (telling (module_scope new) find).local
      (telling (module_scope new) find).field (telling (module_scope new) find).label n fields (completed_own n fields no_clash)
      ∙ (all_same (module_scope new) (module_scope old) find find
      (λ s. position_stays (id_context (items new)) (index_for (desugared_by_position fields) s)
      ∙ sym (position_stays (id_context (items old)) (index_for (desugared_by_position fields) s)))
      (alike_shapes (completed_looks n fields)) old
      (asks_alike (module_scope new) (module_scope old) n (written_position n fields (omega (arith, above))) (checks_of (in_module old)) as_old)
      ∙ sym (told_positions (desugared_by_position fields)))))
