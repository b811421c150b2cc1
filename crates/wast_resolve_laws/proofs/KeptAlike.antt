-- The ids that are kept depend on the names of items, and appended types have none.
use Rattle.std.proofs.Common.{◌≡◌, ℕ, ◌<◌, false, not, ◌&&◌, ◌||◌, List, [], ◌∷◌, map, is_some, refl, ap, ◌∙◌, arith}
use Rattle.std.specs.List.{list_any}
use Rattle.std.proofs.Math.Bool.{and-false, or-false}
use Rattle.std.proofs.lemmas.Grind.{flat_map-append}
use Rattle.wast_base.specs.Ids.{Name, name_of, generation_of, is_generated}
use Rattle.wast_base.specs.Spaces.{name_if, same_space, is_called, is_borne}
use Rattle.wast_tree_nodes.specs.Items.{Item, items, items_in}
use Rattle.wast_tree_nodes.specs.Known.{IdContext, names_in}
use Rattle.wast_tree_nodes.specs.Sites.{Check, ItemIndex}
use Rattle.wast_tree_nodes.specs.Generations.{generation_in, greatest_asked}
use Rattle.wast_tree_nodes.specs.WellFormed.{is_kept, are_kept}
use Rattle.wast_tree_nodes.proofs.Bearing.{borne_among, borne_by_both}
use Rattle.wast_expand_keys.specs.Signatures.{Signature}
use Rattle.wast_expand_keys.specs.ImpliedTypes.{implied_signatures}
use Rattle.wast_expand_keys.specs.Expanded.{unnamed_type}
use Rattle.wast_expand_keys.specs.Completed.{fields_with_implied_types}
use Rattle.wast_resolve_laws.specs.Tree.{Space, ModuleField}
use Rattle.wast_resolve_laws.specs.Tree.index
use Rattle.wast_resolve_laws.specs.Tree.space

-- Types without ids have no name.
none_borne : (q : Name) (s : Space) (ss : List Signature) → is_borne q (names_in s (items (map unnamed_type ss))) ≡ false
none_borne q s ss = borne_among s q (items (map unnamed_type ss)) ∙ none ss
  where
    none : (ss : List Signature) → list_any (λ (x : Item). same_space s x.space && is_called q (name_if x.id)) (items (map unnamed_type ss)) ≡ false
    none [] = refl
    none (t ∷ ss) = ap (λ b. b || list_any (λ (x : Item). same_space s x.space && is_called q (name_if x.id)) (items (map unnamed_type ss)))
        (and-false (same_space s space.Ty)) ∙ none ss

pub completed_borne : (q : Name) (s : Space) (fields : List ModuleField)
    → is_borne q (names_in s (items (fields_with_implied_types fields))) ≡ is_borne q (names_in s (items fields))
completed_borne q s fields =
    let new = items (map unnamed_type (implied_signatures fields)) in
    ap (λ xs. is_borne q (names_in s xs)) (flat_map-append items_in fields (map unnamed_type (implied_signatures fields)))
    ∙ (borne_by_both s q (items fields) new ∙ (ap (λ b. is_borne q (names_in s (items fields)) || b) (none_borne q s (implied_signatures fields))
    ∙ or-false (is_borne q (names_in s (items fields)))))

-- If old names are the same, the same ids are kept.
module _ (n : ℕ) (k l : IdContext) (same : (s : Space) (q : Name) → generation_of q < n → is_some (k.number s q) ≡ is_some (l.number s q)) where
  kept_alike : (a : Check) → generation_in a < n → is_kept k a ≡ is_kept l a
  kept_alike (ItemIndex s (index.Num m p)) lt = refl
  kept_alike (ItemIndex s (index.Id id)) lt = ap (λ b. not (is_generated (name_of id)) || b) (same s (name_of id) lt)
  kept_alike a lt = refl

  pub all_kept_alike : (asks : List Check) → greatest_asked asks < n → are_kept k asks ≡ are_kept l asks
  all_kept_alike [] lt = refl
  all_kept_alike (a ∷ asks) lt = ap (λ b. b && are_kept k asks) (kept_alike a (omega (arith, lt)))
      ∙ ap (λ b. is_kept l a && b) (all_kept_alike asks (omega (arith, lt)))
