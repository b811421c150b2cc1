-- Proves SettledStays: names know the ids of the fields' items.
use Rattle.std.proofs.Common.{◌≡◌, ℕ, ◌+◌, Bool, true, true≢false, not, ◌&&◌, ◌||◌, List, [], ◌∷◌, Some, None, is_some, ap, sym, ◌∙◌}
use Rattle.std.specs.List.{list_any}
use Rattle.std.proofs.Math.Bool.{and-true, and-false}
use Rattle.wast_base.specs.Ids.{Name, Generated, name_of, is_generated}
use Rattle.wast_base.specs.Spaces.{same_space, name_if, is_called, is_borne}
use Rattle.wast_tree_nodes.specs.Items.{Item, items}
use Rattle.wast_tree_nodes.specs.Known.{id_context, names_in}
use Rattle.wast_tree_nodes.proofs.Bearing.{borne_among}
use Rattle.wast_expand_inline.specs.Written.{with_referred_ids, desugared_from, reference_id_count}
use Rattle.wast_expand_inline.proofs.BothPass.{either_stays}
use Rattle.wast_expand_inline.proofs.WrittenItems.{same_of_items, any_referable}
use Rattle.wast_expand_keys.specs.Completed.{fields_with_implied_types}
use Rattle.wast_expand_keys.specs.Expanded.{expanded_fields}
use Rattle.wast_resolve_rules.specs.Explicit.{explicit_fields_from}
use Rattle.wast_resolve_laws.proofs.Changes.{Change, Kept, Given, olds, news}
use Rattle.wast_resolve_laws.proofs.ExpandedItems.{changes, old_items, new_items}
use Rattle.wast_resolve_laws.proofs.KeptAlike.{completed_borne}
use Rattle.wast_resolve.specs.Tree.{Space, ModuleField}
use Rattle.wast_resolve.specs.Tree.index
use Rattle.wast_resolve.specs.Laws.{SettledStays}

module _ (s : Space) (q : Name) where
  abbrev bears : Item → Bool
  bears x = same_space s x.space && is_called q (name_if x.id)

  abbrev bear : List Item → Bool
  bear xs = list_any bears xs

  abbrev is_known : List ModuleField → Bool
  is_known fields = is_borne q (names_in s (items fields))

  -- an item that gets an id had none
  still_bear : (n : ℕ) (cs : List Change) → bear (olds cs) ≡ true → bear (news n cs) ≡ true
  still_bear n [] h = h
  still_bear n (Kept x ∷ cs) h = either_stays (bears x) (bear (olds cs)) (bears x) (bear (news n cs)) (λ e. e) (still_bear n cs) h
  still_bear n (Given t p fields ∷ cs) h =
      let bore = bears (record { space = t; id = None; fields = fields }) in
      let bears_now = bears (record { space = t; id = Some (Generated n, p); fields = fields }) in
      either_stays bore (bear (olds cs)) bears_now (bear (news (n + 1) cs)) (λ e. absurd (true≢false (sym e ∙ and-false (same_space s t))))
      (still_bear (n + 1) cs) h

  expanded_bear : (n : ℕ) (fields : List ModuleField) → is_known fields ≡ true → is_known (expanded_fields n fields) ≡ true
  expanded_bear n fields h =
      borne_among s q (items (expanded_fields n fields))
      ∙ (ap bear (new_items n fields)
      ∙ still_bear n (changes fields) (ap bear (sym (old_items fields)) ∙ (sym (borne_among s q (items (fields_with_implied_types fields)))
      ∙ (completed_borne q s fields ∙ h))))

  written_bear : (n : ℕ) (fields : List ModuleField) → is_known fields ≡ true → is_known (desugared_from n fields) ≡ true
  written_bear n fields h =
      borne_among s q (items (desugared_from n fields))
      ∙ (same_of_items bear (λ t xs h. ap (λ b. b || bear xs) (and-false (same_space s t))) (λ x xs ys e. ap (λ b. bears x || b) e) (with_referred_ids n fields)
      ∙ any_referable bears (λ t. and-false (same_space s t)) n fields (sym (borne_among s q (items fields)) ∙ h))

  pub explicit_bear : (n : ℕ) (fields : List ModuleField) → is_known fields ≡ true → is_known (explicit_fields_from n fields) ≡ true
  explicit_bear n fields h = expanded_bear (n + reference_id_count fields) (desugared_from n fields) (written_bear n fields h)

pub settled_stays : SettledStays
settled_stays n fields s (index.Num m p) h = h
settled_stays n fields s (index.Id id) h =
    let written = not (is_generated (name_of id)) in
    let old = is_some ((id_context (items fields)).number s (name_of id)) in
    let new = is_some ((id_context (items (explicit_fields_from n fields))).number s (name_of id)) in
    ap (λ b. b && true) (either_stays written old written new (λ e. e) (explicit_bear s (name_of id) n fields) (sym (and-true (written || old)) ∙ h))
