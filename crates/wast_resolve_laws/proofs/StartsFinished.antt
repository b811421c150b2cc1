-- Proves StartsAreMet and StartsComeBefore.
use Rattle.std.proofs.Common.{◌≡◌, ◌+◌, List, ◌++◌, map, None, sym, ap, ◌∙◌}
use Rattle.std.specs.List.{list_all}
use Rattle.std.proofs.lemmas.List.{map-append}
use Rattle.wast_base.specs.Filling.{missing_id_count}
use Rattle.wast_tree_nodes.specs.Items.{items}
use Rattle.wast_tree_nodes.specs.Known.{id_context}
use Rattle.wast_tree_map.specs.Mapped.{mapped_field}
use Rattle.wast_expand_keys.specs.ImpliedTypes.{implied_signatures}
use Rattle.wast_expand_keys.specs.Expanded.{lacks_id, binding_change}
use Rattle.wast_resolve_laws.specs.Tree.{ModuleField}
use Rattle.wast_resolve_laws.specs.Tree.space
use Rattle.wast_resolve_rules.specs.Scopes.{module_scope}
use Rattle.wast_resolve_rules.specs.Demands.{first_unmet, demands}
use Rattle.wast_resolve_rules.specs.Resolved.{numbered_at, numbering_change, resolved_fields}
use Rattle.wast_resolve_laws.specs.Rests.{start_fields_of, final_names, StartsAreMet, StartsComeBefore}
use Rattle.wast_resolve_laws.proofs.Explicit.{explicit_answer}
use Rattle.wast_resolve_laws.proofs.StartsBehind.{more_types, find, next, out, own, more, still_types, implied_are, denotes_function}
use Rattle.wast_resolve_laws.proofs.StartsBehind.{demands_met, resolved_among, explicit_parts, explicit_behind}
use Rattle.wast_resolve_laws.proofs.StartsKept.{below_before}

pub starts_are_met : StartsAreMet
starts_are_met n fields is above met denote =
    let unmet = sym (explicit_answer n (fields ++ start_fields_of is) above) in
    let first : first_unmet (demands (own n fields ++ more n fields)) ≡ None =
    ap (λ xs. first_unmet (demands xs)) (sym (explicit_parts n fields)) ∙ (explicit_answer n fields (below_before n fields is above) ∙ met) in
    unmet
    ∙ (ap (λ xs. first_unmet (demands xs)) (explicit_behind n fields is)
    ∙ demands_met is (own n fields) (more n fields) (ap (λ xs. list_all (denotes_function (id_context (items xs))) is)
    (sym (explicit_parts n fields)) ∙ denote) first)

pub starts_come_before : StartsComeBefore
starts_come_before n fields is =
    let c = module_scope (own n fields ++ more n fields) in
    let moved = mapped_field (numbering_change c) in
    let a = still_types (numbering_change c) (more n fields) (still_types (binding_change (find (next n fields) (out n fields)))
    (more_types (next n fields) (out n fields)) (implied_are (next n fields + missing_id_count lacks_id (out n fields))
    (implied_signatures (out n fields)))) in
    let names : start_fields_of (map (numbered_at c.known space.Func) is) ≡ start_fields_of (map (numbered_at (final_names n fields) space.Func) is) =
    ap (λ (xs : List ModuleField). start_fields_of (map (numbered_at (id_context (items xs)) space.Func) is)) (sym (explicit_parts n fields)) in (
      map moved (own n fields),
      a.types,
      ap resolved_fields (explicit_parts n fields) ∙ (map-append moved (own n fields) (more n fields) ∙ ap (λ zs. map moved (own n fields) ++ zs) a.are),
      ap resolved_fields (explicit_behind n fields is)
          ∙ (resolved_among is (own n fields) (more n fields) ∙ (λ t. map moved (own n fields) ++ (names t ++ a.are t))),
    )
