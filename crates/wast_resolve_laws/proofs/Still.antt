-- Numbering numbered fields again changes nothing.
use Rattle.std.proofs.Common.{◌≡◌, ℕ, ◌+◌, List, [], ◌∷◌, ◌++◌, map, Option, Some, None, option_map, refl, ap, ◌∙◌}
use Rattle.std.proofs.lemmas.List.{length-map, map-append}
use Rattle.wast_base.specs.declared.ids.Span.{Span}
use Rattle.wast_base.specs.Ids.{Name}
use Rattle.wast_base.specs.Spaces.{position_of}
use Rattle.wast_resolve_labels.specs.OpenBlocks.{label_depth}
use Rattle.wast_tree_nodes.specs.Types.{said_once}
use Rattle.wast_tree_nodes.specs.Known.{IdContext}
use Rattle.wast_tree_nodes.specs.Sites.{Check, ItemIndex, Where, OfItem, OfCall, OfBlock, Locals, Site, Asked, Used, LocalAt, FieldAt, LabelAt, in_module}
use Rattle.wast_base.proofs.Numbered.{denoted_still, resolved_twice}
use Rattle.wast_tree_map.specs.Mapped.{Change, JoinsAsk, Joins, mapped_locals, mapped_val, mapped_signature, mapped_field}
use Rattle.wast_tree_map.proofs.Ways.{In, index_in, option_at}
use Rattle.wast_tree_map.proofs.Types.{signature_at}
use Rattle.wast_tree_map.proofs.Joined.{of_indices, indices_join}
use Rattle.wast_tree_map.proofs.Laws.{joins, each_so}
use Rattle.wast_resolve_laws.specs.Tree.{Index, FunctionType, TypeUse, ModuleField}
use Rattle.wast_resolve_laws.specs.Tree.index
use Rattle.wast_resolve_laws.specs.Tree.space
use Rattle.wast_resolve_laws.specs.Tree.heap
use Rattle.wast_resolve_laws.specs.Tree.value
use Rattle.wast_resolve_rules.specs.Scopes.{Shape, Function, Struct, Other, Scope, module_scope, denoted, type_at, params_of, field_in}
use Rattle.wast_resolve_rules.specs.Scopes.{unsaid_params, implicit_param_count, local_number, field_number}
use Rattle.wast_resolve_rules.specs.Resolved.{numbered_at, numbered_use, resolved_use, numbering_change, resolved_fields}
use Rattle.wast_resolve_rules.proofs.Numbering.{numbering_keeps}
use Rattle.wast_resolve_laws.specs.Rests.{start_fields_of, numbers}
use Rattle.wast_resolve_laws.proofs.NumberedTypes.{numbered_shape}
use Rattle.wast_resolve_laws.proofs.NumberedSites.{rested, at_still}
use Rattle.wast_resolve_laws.proofs.Resting.{scope_rests}

module _ (k : IdContext) where
  -- a part that numbering changes in its indices alone
  part_twice : {T : Type 0} {asks : T → List Check} {changed : Change → T → T} (x : T) → In asks changed x
      → changed (of_indices (numbered_at k)) (changed (of_indices (numbered_at k)) x) ≡ changed (of_indices (numbered_at k)) x
  part_twice x at = indices_join (numbered_at k) (numbered_at k) (numbered_at k) (λ s i. resolved_twice (k.number s) (k.number s) (λ q. refl) i) x at

  numbered_twice : (u : TypeUse FunctionType) → numbered_use k (numbered_use k u) ≡ numbered_use k u
  numbered_twice u = λ i. record {
    index = part_twice u.index (option_at (index_in space.Ty) u.index) i;
    inline = part_twice u.inline (option_at signature_at u.inline) i;
  }

  -- a type use whose inline type was removed is numbered so
  said_twice : (o : Option Index) (t : Option FunctionType) → said_once (numbered_use k (said_once (record { index = o; inline = t }))) ≡ said_once
      (numbered_use k (record { index = o; inline = t }))
  said_twice None t = refl
  said_twice (Some i) t = refl

  once_twice : (u : TypeUse FunctionType) → said_once (numbered_use k (said_once (numbered_use k u))) ≡ said_once (numbered_use k u)
  once_twice u = said_twice (numbered_use k u).index (numbered_use k u).inline ∙ ap said_once (numbered_twice u)

  use_twice : (w : Where) (u : TypeUse FunctionType) → resolved_use k w (resolved_use k w u) ≡ resolved_use k w u
  use_twice OfItem u = numbered_twice u
  use_twice OfCall u = once_twice u
  use_twice OfBlock u = once_twice u

module _ (c : Scope) where
  abbrev k : IdContext
  k = c.known

  params_still : (o : Option Shape) → params_of (option_map (numbered_shape k) o) ≡ params_of o
  params_still None = refl
  params_still (Some (Function s)) = length-map s.0 (mapped_val (numbered_at k))
  params_still (Some (Struct number)) = refl
  params_still (Some Other) = refl

  field_still : (o : Option Shape) (q : Name) → field_in (option_map (numbered_shape k) o) q ≡ field_in o q
  field_still None q = refl
  field_still (Some (Function s)) q = refl
  field_still (Some (Struct number)) q = refl
  field_still (Some Other) q = refl

  unsaid_still : (o : Option Index) (t : Option FunctionType)
      → unsaid_params (rested c) (option_map (numbered_at k space.Ty) o) (option_map (mapped_signature (numbered_at k)) t) ≡ unsaid_params c o t
  unsaid_still None None = refl
  unsaid_still None (Some t) = refl
  unsaid_still (Some i) (Some t) = refl
  unsaid_still (Some i) None =
      ap (λ o. params_of (type_at (rested c).types o)) (denoted_still (k.number space.Ty) i)
      ∙ (ap params_of (at_still c (denoted (k.number space.Ty) i)) ∙ params_still (type_at c.types (denoted (k.number space.Ty) i)))

  nameless_still : (o : Option (TypeUse FunctionType)) → implicit_param_count (rested c) (option_map (resolved_use k OfItem) o) ≡ implicit_param_count c o
  nameless_still None = refl
  nameless_still (Some u) = unsaid_still u.index u.inline

  local_still : (l : Locals) (q : Name) → local_number (rested c) (mapped_locals (numbering_change c) l) q ≡ local_number c l q
  local_still l q = ap (λ n. option_map (λ p. n + p) (position_of q l.names)) (nameless_still l.owner)

  owner_still : (owner : Index) (q : Name) → field_number (rested c) (numbered_at k space.Ty owner) q ≡ field_number c owner q
  owner_still owner q =
      ap (λ o. field_in (type_at (rested c).types o) q) (denoted_still (k.number space.Ty) owner)
      ∙ (ap (λ o. field_in o q) (at_still c (denoted (k.number space.Ty) owner)) ∙ field_still (type_at c.types (denoted (k.number space.Ty) owner)) q)

  asks_join : (a : Check) → JoinsAsk (numbering_change c).index (numbering_change (rested c)).index (numbering_change c).index a
  asks_join (ItemIndex s i) = resolved_twice (k.number s) (k.number s) (λ q. refl) i
  asks_join x = tt

  site_joins : (s : Site) → Joins (numbering_change c) (numbering_change (rested c)) (numbering_change c) s
  site_joins (Asked a) = asks_join a
  site_joins (Used w u) = use_twice k w u
  site_joins (LocalAt locals i) = resolved_twice (local_number c locals) (local_number (rested c) (mapped_locals (numbering_change c) locals))
      (local_still locals) i
  site_joins (FieldAt owner i) = (
    resolved_twice (k.number space.Ty) (k.number space.Ty) (λ q. refl) owner,
    resolved_twice (field_number c owner)
        (field_number (rested c) (numbered_at k space.Ty owner)) (owner_still owner) i,
  )
  site_joins (LabelAt blocks i) = resolved_twice (λ name. label_depth name blocks) (λ name. label_depth name blocks) (λ q. refl) i
  site_joins x = tt

  again : (xs : List ModuleField) → map (mapped_field (numbering_change (rested c))) (map (mapped_field (numbering_change c)) xs) ≡ map
      (mapped_field (numbering_change c)) xs
  again xs =
      joins (numbering_change c) (numbering_change (rested c)) (numbering_change c) (record { keeps = numbering_keeps c; ids = λ o. refl; owns = λ o. refl }) xs
      (each_so (Joins (numbering_change c) (numbering_change (rested c)) (numbering_change c)) site_joins (in_module xs))

  starts_still : (ks : List (ℕ × Span)) → map (mapped_field (numbering_change (rested c))) (start_fields_of (numbers ks)) ≡ start_fields_of (numbers ks)
  starts_still [] = refl
  starts_still (j ∷ ks) = λ i. start_fields_of (numbers (j ∷ [])) ++ starts_still ks i

pub rests_numbered : (xs : List ModuleField) (ks : List (ℕ × Span))
    → resolved_fields (resolved_fields xs ++ start_fields_of (numbers ks)) ≡ resolved_fields xs ++ start_fields_of (numbers ks)
rests_numbered xs ks =
    ap (λ d. map (mapped_field (numbering_change d)) (resolved_fields xs ++ start_fields_of (numbers ks))) (scope_rests xs ks)
    ∙ (map-append (mapped_field (numbering_change (rested (module_scope xs)))) (resolved_fields xs) (start_fields_of (numbers ks))
    ∙ (λ i. again (module_scope xs) xs i ++ starts_still (module_scope xs) ks i))
