-- Proves UsesHaveIndices and FinishedIsResolved: type uses keep their indices, and a block without one has a short
-- type.
use Rattle.std.proofs.Common.{◌≡◌, ℕ, ◌==◌, Bool, true, false, not, ◌&&◌, ◌||◌, List, [], ◌∷◌, ◌++◌, map, length, Option, Some, None, is_some, refl, ap, ◌∙◌}
use Rattle.std.specs.Prelude.{nat_lt}
use Rattle.std.specs.Cmp.{first_so, second_so}
use Rattle.std.specs.List.{list_all}
use Rattle.std.proofs.lemmas.List.{length-map}
use Rattle.std.proofs.lemmas.List.Folds.{list_all-map}
use Rattle.wast_base.specs.Ids.{is_number}
use Rattle.wast_tree_nodes.specs.Sites.{Where, OfItem, OfCall, OfBlock, Site, Asked, Used, LocalAt, FieldAt, LabelAt, in_type_use, asked_in}
use Rattle.wast_tree_nodes.specs.Sites.{checks_of, in_module}
use Rattle.wast_tree_nodes.specs.Types.{is_short, says_enough}
use Rattle.wast_tree_nodes.specs.Resolved.{is_numbered, are_numbered, is_resolved_site}
use Rattle.wast_tree_map.specs.Mapped.{mapped_val, mapped_param, mapped_signature, mapped_site, mapped_field}
use Rattle.wast_tree_map.proofs.Laws.{stands}
use Rattle.wast_expand_keys.specs.Signatures.{Signature, signature_of}
use Rattle.wast_expand_keys.specs.NeedingUses.{needed_if, needed_without, needed_by_use, needed_at, needed_in, needed_signatures}
use Rattle.wast_expand_keys.specs.Expanded.{fields_with_types, found_for, expanded_fields}
use Rattle.wast_expand_types.proofs.Staying.{left_none, right_none, says, fields_say}
use Rattle.wast_expand_types.proofs.HavingTypes.{uses_are_bound}
use Rattle.wast_resolve_laws.specs.Tree.{Index, FunctionType, ModuleField}
use Rattle.wast_resolve_rules.specs.Scopes.{Scope, module_scope}
use Rattle.wast_resolve_rules.specs.Resolved.{numbered_at, resolved_use, numbering_change}
use Rattle.wast_resolve_laws.proofs.OfExpanded.{numbered, HasIndices, IsResolved}
use Rattle.wast_resolve_laws.proofs.CompletedAsks.{first_part, second_part}
use Rattle.wast_resolve_laws.proofs.Composed.{all_are_numbers}
use Rattle.wast_resolve_laws.proofs.ImpliedSignatures.{both_so, all_pass}
use Rattle.wast_resolve_rules.proofs.Numbering.{numbering_keeps}

-- A block without an index needs no type if its type is short.
none_needed : (b : Bool) (s : Signature) → needed_if (not b) s ≡ [] → b ≡ true
none_needed true s h = refl
none_needed false s h = absurd cc

pub expanded_says : (n : ℕ) (fields : List ModuleField) → list_all says (in_module (expanded_fields n fields)) ≡ true
expanded_says n fields = fields_say (found_for fields n) (fields_with_types n fields)

module _ (c : Scope) where
  short_still : (t : FunctionType) → is_short (mapped_signature (numbered_at c.known) t) ≡ is_short t
  short_still t =
      ap (λ m. m == 0 && nat_lt (length (map (mapped_val (numbered_at c.known)) t.results)) 2) (length-map t.params (mapped_param (numbered_at c.known)))
      ∙ ap (λ m. length t.params == 0 && nat_lt m 2) (length-map t.results (mapped_val (numbered_at c.known)))

  use_has : (w : Where) (i : Option Index) (t : Option FunctionType) → needed_without w i t ≡ []
      → needed_by_use w (resolved_use c.known w (record { index = i; inline = t })) ≡ []
  use_has OfItem (Some i) t h = refl
  use_has OfItem None t h = absurd cc
  use_has OfCall (Some i) t h = refl
  use_has OfCall None t h = absurd cc
  use_has OfBlock (Some i) t h = refl
  use_has OfBlock None None h = refl
  use_has OfBlock None (Some t) h =
      let now = signature_of (mapped_signature (numbered_at c.known) t) in
      ap (λ b. needed_if (not b) now) (short_still t) ∙ ap (λ b. needed_if (not b) now) (none_needed (is_short t) (signature_of t) h)

  site_has : (s : Site) → needed_at s ≡ [] → needed_at (mapped_site (numbering_change c) s) ≡ []
  site_has (Used w u) none = use_has w u.index u.inline none
  site_has s none = refl

  sites_have : (ss : List Site) → needed_in ss ≡ [] → needed_in (map (mapped_site (numbering_change c)) ss) ≡ []
  sites_have [] none = refl
  sites_have (s ∷ ss) none =
      ap (λ xs. xs ++ needed_in (map (mapped_site (numbering_change c)) ss)) (site_has s (left_none (needed_at s) (needed_in ss) none))
      ∙ sites_have ss (right_none (needed_at s) (needed_in ss) none)

  has_fields : (xs : List ModuleField) → needed_signatures xs ≡ [] → needed_signatures (map (mapped_field (numbering_change c)) xs) ≡ []
  has_fields xs none = ap needed_in (stands (numbering_change c) (numbering_keeps c) xs) ∙ sites_have (in_module xs) none

  use_says : (w : Where) (i : Option Index) (t : Option FunctionType) → says (Used w (record { index = i; inline = t })) ≡ true
      → says (Used w (resolved_use c.known w (record { index = i; inline = t }))) ≡ true
  use_says OfBlock (Some i) t h = refl
  use_says OfBlock None (Some t) h = refl
  use_says OfBlock None None h = absurd (cc h)
  use_says x i t h = refl

  site_says : (s : Site) → says s ≡ true → says (mapped_site (numbering_change c) s) ≡ true
  site_says (Used w u) h = use_says w u.index u.inline h
  site_says s h = refl

  pub still_says : (xs : List ModuleField) → list_all says (in_module xs) ≡ true → list_all says (in_module (map (mapped_field (numbering_change c)) xs)) ≡ true
  still_says xs h =
      ap (list_all says) (stands (numbering_change c) (numbering_keeps c) xs)
      ∙ (list_all-map says (mapped_site (numbering_change c)) (in_module xs)
      ∙ all_pass says (λ s. says (mapped_site (numbering_change c) s)) site_says (in_module xs) h)

pub numbered_indexed : HasIndices
numbered_indexed n fields = has_fields (module_scope (expanded_fields n fields)) (expanded_fields n fields) (uses_are_bound n fields)

-- If each index is a number and no type use needs a type, the list is resolved.
use_enough : (w : Where) (i : Option Index) (t : Option FunctionType) → needed_without w i t ≡ []
    → says (Used w (record { index = i; inline = t })) ≡ true → (is_some i || says_enough w t) ≡ true
use_enough w (Some i) t none said = refl
use_enough OfItem None t none said = absurd cc
use_enough OfCall None t none said = absurd cc
use_enough OfBlock None None none said = absurd (cc said)
use_enough OfBlock None (Some t) none said = none_needed (is_short t) (signature_of t) none

site_resolved : (s : Site) → needed_at s ≡ [] → says s ≡ true → are_numbered (asked_in s) ≡ true → is_resolved_site s ≡ true
site_resolved (Asked a) none said h = first_so (is_numbered a) true h
site_resolved (Used w u) none said h = both_so (is_some u.index || says_enough w u.inline) (are_numbered (in_type_use u))
    (use_enough w u.index u.inline none said) h
site_resolved (LocalAt locals i) none said h = first_so (is_number i) true h
site_resolved (FieldAt owner i) none said h =
    let rest = is_number i && true in
    both_so (is_number owner) (is_number i) (first_so (is_number owner) rest h) (first_so (is_number i) true (second_so (is_number owner) rest h))
site_resolved (LabelAt blocks i) none said h = first_so (is_number i) true h
site_resolved s none said h = refl

sites_resolved : (ss : List Site) → needed_in ss ≡ [] → list_all says ss ≡ true → are_numbered (checks_of ss) ≡ true → list_all is_resolved_site ss ≡ true
sites_resolved [] none said h = refl
sites_resolved (s ∷ ss) none said h =
    both_so (is_resolved_site s) (list_all is_resolved_site ss)
    (site_resolved s (left_none (needed_at s) (needed_in ss) none) (first_so (says s) (list_all says ss) said)
    (first_part is_numbered (asked_in s) (checks_of ss) h))
    (sites_resolved ss (right_none (needed_at s) (needed_in ss) none) (second_so (says s) (list_all says ss) said)
    (second_part is_numbered (asked_in s) (checks_of ss) h))

pub numbered_resolved : IsResolved
numbered_resolved n fields above met =
    sites_resolved (in_module (numbered n fields)) (numbered_indexed n fields)
    (still_says (module_scope (expanded_fields n fields)) (expanded_fields n fields) (expanded_says n fields)) (all_are_numbers n fields above met)
