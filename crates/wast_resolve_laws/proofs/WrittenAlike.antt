-- The expansion by ids has the same checks and sizes as the one by positions.
use Rattle.std.proofs.Common.{◌≡◌, ℕ, ◌<◌, true, List, None, ap, ◌∙◌, arith}
use Rattle.std.proofs.lemmas.Bool.{lt-ltb}
use Rattle.wast_tree_nodes.specs.Items.{items}
use Rattle.wast_tree_nodes.specs.Sites.{Covered, in_module, checks_of}
use Rattle.wast_tree_nodes.specs.Generations.{generation_in, greatest_item, greatest_generation}
use Rattle.wast_expand_inline.specs.Written.{desugared_from, desugared_by_position}
use Rattle.wast_expand_inline.proofs.WrittenAsks.{written_out_pass}
use Rattle.wast_expand_inline.proofs.Below.{each_below}
use Rattle.wast_expand_keys.specs.Expanded.{type_id_count}
use Rattle.wast_expand_keys.specs.Completed.{fields_with_implied_types}
use Rattle.wast_resolve_laws.specs.Tree.{ModuleField}
use Rattle.wast_resolve_laws.specs.Tree.form
use Rattle.wast_resolve_rules.specs.Scopes.{module_scope}
use Rattle.wast_resolve_rules.specs.Demands.{first_unmet, item_demands, site_demands, order_demands, name_demands, demands, item_counts, body_counts}
use Rattle.wast_resolve_rules.proofs.Unmet.{alike_behind}
use Rattle.wast_resolve_laws.proofs.CompletedAsks.{pass, is_below, completed_pass}
use Rattle.wast_resolve_laws.proofs.AlikeScopes.{old_uses, old_bodies}
use Rattle.wast_resolve_laws.proofs.WrittenLooks.{alike_shapes, alike_bodies, alike_orders, alike_wants, written_looks, completed_looks}
use Rattle.wast_resolve_laws.proofs.WrittenOwn.{completed_own}
use Rattle.wast_resolve_laws.proofs.WrittenItems.{written_position, written_clashes, written_item_counts}
use Rattle.wast_resolve_laws.proofs.WrittenUses.{written_uses}

module _ (n : ℕ) (fields : List ModuleField) (above : greatest_generation fields < n) where
  abbrev new : List ModuleField
  new = fields_with_implied_types (desugared_from n fields)

  abbrev old : List ModuleField
  old = fields_with_implied_types (desugared_by_position fields)

  items_below : greatest_item (items fields) < n
  items_below = omega (arith, above)

  -- No generated id is new among the checks by positions.
  asks_below : pass (is_below n) (checks_of (in_module old)) ≡ true
  asks_below =
      let some : is_below n (Covered form.Shared true) ≡ true = lt-ltb 0 n (omega (arith, above)) in
      completed_pass (is_below n) some (λ m p. some) (desugared_by_position fields) (written_out_pass (is_below n) (λ c. some) (λ s m p. some) fields
      (each_below n generation_in (checks_of (in_module fields)) (omega (arith, above))))

  same_uses : first_unmet (item_demands (items new)) ≡ None → first_unmet (site_demands (module_scope new) (in_module new)) ≡ first_unmet
      (site_demands (module_scope old) (in_module old))
  same_uses free =
      written_uses (module_scope new) n fields (completed_own n fields free)
      ∙ ap first_unmet (old_uses n new old (alike_shapes (completed_looks n fields)) (λ s q lt. written_position n fields items_below q s lt) asks_below)

  same_names : first_unmet (name_demands new) ≡ first_unmet (name_demands old)
  same_names =
      alike_behind (item_demands (items new)) (item_demands (items old)) (site_demands (module_scope new) (in_module new))
      (site_demands (module_scope old) (in_module old)) (written_clashes n fields items_below) same_uses

  pub written_unmet : first_unmet (demands new) ≡ first_unmet (demands old)
  written_unmet = alike_behind (order_demands new) (order_demands old) (name_demands new) (name_demands old)
      (ap first_unmet (alike_orders (completed_looks n fields))) (λ met. same_names)

  pub clashes_alike : first_unmet (item_demands (items new)) ≡ first_unmet (item_demands (items old))
  clashes_alike = written_clashes n fields items_below

  pub written_counts : item_counts (items new) ≡ item_counts (items old)
  written_counts = written_item_counts n fields items_below

  pub written_bodies : body_counts new ≡ body_counts old
  written_bodies =
      alike_bodies (completed_looks n fields) (module_scope new)
      ∙ old_bodies n new old (alike_shapes (completed_looks n fields)) (λ s q lt. written_position n fields items_below q s lt) asks_below

pub written_wants : (n : ℕ) (fields : List ModuleField) → type_id_count (desugared_from n fields) ≡ type_id_count (desugared_by_position fields)
written_wants n fields = alike_wants (written_looks n fields)
