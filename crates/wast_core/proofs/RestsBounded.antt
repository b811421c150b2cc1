-- Resolved fields are bounded if the module was, because numbering changes no count.
use Rattle.std.proofs.Common.{◌≡◌, ℕ, ◌+◌, ◌<◌, ◌^◌, true, List, [], ◌∷◌, ◌++◌, map, length, append-nil, Option, Some, None, option_map}
use Rattle.std.proofs.Common.{refl, sym, ap, ◌∙◌, subst, inl, inr, arith}
use Rattle.std.specs.List.{flat_map, list_all}
use Rattle.std.proofs.lemmas.List.{length-map}
use Rattle.wast_base.specs.Filling.{one_if, missing_id_count}
use Rattle.wast_base.proofs.Numbered.{denoted_still}
use Rattle.wast_tree_nodes.specs.Generations.{greatest_generation}
use Rattle.wast_tree_nodes.specs.Items.{items}
use Rattle.wast_tree_nodes.specs.Known.{IdContext}
use Rattle.wast_tree_nodes.specs.Sites.{Site, Begins, param_marks, local_marks, in_field, in_module}
use Rattle.wast_tree_nodes.specs.WrittenOut.{is_written_out}
use Rattle.wast_tree_map.specs.Laws.{all_mapped}
use Rattle.wast_tree_map.specs.Mapped.{mapped_site, mapped_val, mapped_signature, mapped_local, mapped_func_kind, mapped_field}
use Rattle.wast_tree_map.proofs.Fields.{field_at}
use Rattle.wast_tree_map.proofs.Kept.{stands_at}
use Rattle.wast_expand_inline.specs.Written.{desugared_from, reference_id_count}
use Rattle.wast_expand_keys.specs.NeedingUses.{needed_signatures}
use Rattle.wast_expand_keys.specs.Expanded.{lacks_id, type_id_count}
use Rattle.wast_expand_types.proofs.AtRest.{wants_no_more}
use Rattle.wast_expand_types.proofs.Staying.{says}
use Rattle.wast_resolve_rules.specs.Scopes.{Shape, Function, Struct, Other, Scope, module_scope, denoted, type_at, params_of, unsaid_params}
use Rattle.wast_resolve_rules.specs.Demands.{first_unmet, item_demands, site_demands, order_demands, name_demands, demands, item_counts}
use Rattle.wast_resolve_rules.specs.Demands.{kind_marks, local_counts_in, open_counts_at, open_counts, body_counts_in, body_counts, HasMany}
use Rattle.wast_resolve_rules.specs.Demands.{HasManyItems, IsCrowded}
use Rattle.wast_resolve_rules.specs.Explicit.{explicit_fields, explicit_fields_from, by_positions, generated_id_count}
use Rattle.wast_resolve_rules.specs.Finished.{resolved_fields_from}
use Rattle.wast_resolve_rules.specs.Resolved.{numbered_at, numbering_change, resolved_fields}
use Rattle.wast_resolve_rules.proofs.Numbering.{numbering_keeps}
use Rattle.wast_resolve_rules.proofs.Unmet.{met_parts}
use Rattle.wast_resolve_laws.specs.Laws.{SameCounts, SameBodyCounts, ItemsStay}
use Rattle.wast_resolve_laws.specs.Rests.{RestsByPosition, FillsNoMore}
use Rattle.wast_resolve_laws.proofs.Explicit.{finished_indexed, finished_written_out}
use Rattle.wast_resolve_laws.proofs.Indexed.{expanded_says, still_says}
use Rattle.wast_resolve_laws.proofs.NumberedSites.{rested, at_still}
use Rattle.wast_resolve_laws.proofs.NumberedTypes.{numbered_shape}
use Rattle.wast_resolve_laws.proofs.Resting.{scope_rests}
use Rattle.wast_resolve_laws.proofs.Settled.{explicit_is}
use Rattle.wast_core.specs.Tree.{Index, FunctionType, TypeUse, FuncKind, Local, ModuleField}
use Rattle.wast_core.specs.Tree.space
use Rattle.wast_core.specs.Tree.func
use Rattle.wast_core.specs.Tree.field
use Rattle.wast_core.specs.AtRest.{RestsBounded}
use Rattle.wast_core_sections.specs.Writable.{IsWritable}
use Rattle.wast_core.specs.Bounded.{IsBounded}
use Rattle.wast_core.specs.Headline.{IsMet}

module _ (c : Scope) where
  abbrev k : IdContext
  k = c.known

  -- A function has as many parameters that its type use does not list.
  params_still : (o : Option Shape) → params_of (option_map (numbered_shape k) o) ≡ params_of o
  params_still None = refl
  params_still (Some (Function s)) = length-map s.0 (mapped_val (numbered_at k))
  params_still (Some (Struct number)) = refl
  params_still (Some Other) = refl

  unsaid_still : (o : Option Index) (t : Option FunctionType)
      → unsaid_params (rested c) (option_map (numbered_at k space.Ty) o) (option_map (mapped_signature (numbered_at k)) t) ≡ unsaid_params c o t
  unsaid_still None None = refl
  unsaid_still None (Some t) = refl
  unsaid_still (Some i) (Some t) = refl
  unsaid_still (Some i) None =
      ap (λ o. params_of (type_at (rested c).types o)) (denoted_still (k.number space.Ty) i)
      ∙ (ap params_of (at_still c (denoted (k.number space.Ty) i)) ∙ params_still (type_at c.types (denoted (k.number space.Ty) i)))

  -- It has as many that it lists, and as many locals.
  marks_still : (locals : List Local) → local_marks (map (mapped_local (numbering_change c)) locals) ≡ local_marks locals
  marks_still [] = refl
  marks_still (l ∷ ls) = λ t. (numbering_keeps c).owns l.id t ∷ marks_still ls t

  kind_still : (u : TypeUse FunctionType) (f : FuncKind) → kind_marks (mapped_func_kind (numbering_change c) u f) ≡ kind_marks f
  kind_still u (func.Import source exact) = refl
  kind_still u (func.Inline locals e) = marks_still locals

  locals_still : (x : ModuleField) → local_counts_in (rested c) (mapped_field (numbering_change c) x) ≡ local_counts_in c x
  locals_still (field.Func f) = λ i. (unsaid_still f.ty.index f.ty.inline i + length ((numbering_keeps c).params f.ty i ++ kind_still f.ty f.kind i)) ∷ []
  locals_still x = refl

  -- As many blocks enclose each block.
  open_at : (s : Site) → open_counts_at (mapped_site (numbering_change c) s) ≡ open_counts_at s
  open_at (Begins blocks m) = refl
  open_at s = refl

  opens_still : (ss : List Site) → open_counts (map (mapped_site (numbering_change c)) ss) ≡ open_counts ss
  opens_still [] = refl
  opens_still (s ∷ ss) = λ i. open_at s i ++ opens_still ss i

  body_still : (x : ModuleField) → body_counts_in (rested c) (mapped_field (numbering_change c) x) ≡ body_counts_in c x
  body_still x = λ i. locals_still x i ++ (ap open_counts (stands_at x (field_at x) (numbering_change c) (numbering_keeps c)) ∙ opens_still (in_field x)) i

  bodies_still : (xs : List ModuleField) → flat_map (body_counts_in (rested c)) (all_mapped (numbering_change c) xs) ≡ flat_map (body_counts_in c) xs
  bodies_still [] = refl
  bodies_still (x ∷ xs) = λ i. body_still x i ++ bodies_still xs i

resolved_bodies : (xs : List ModuleField) → body_counts (resolved_fields xs) ≡ body_counts xs
resolved_bodies xs =
    ap (λ (d : Scope). flat_map (body_counts_in d) (resolved_fields xs)) (ap module_scope (sym (append-nil (resolved_fields xs))) ∙ scope_rests xs [])
    ∙ bodies_still (module_scope xs) xs

-- Numbering neither adds nor removes an id of a type.
ids_kept : (c : Scope) (xs : List ModuleField) → missing_id_count lacks_id (all_mapped (numbering_change c) xs) ≡ missing_id_count lacks_id xs
ids_kept c [] = refl
ids_kept c (x ∷ xs) = λ t. one_if (kept x t) + ids_kept c xs t
  where
    kept : (x : ModuleField) → lacks_id (mapped_field (numbering_change c) x) ≡ lacks_id x
    kept (field.Ty t) = refl
    kept x = refl

-- Nothing is removed from a resolved list.
explicit_rests : (n : ℕ) (fields : List ModuleField) → explicit_fields (resolved_fields_from n fields) ≡ resolved_fields_from n fields
explicit_rests n fields =
    let xs = explicit_fields_from n fields in
    let none : type_id_count xs ≡ 0 = wants_no_more (n + reference_id_count fields) (desugared_from n fields) in
    let kept : missing_id_count lacks_id (resolved_fields_from n fields) ≡ missing_id_count lacks_id xs = ids_kept (module_scope xs) xs in
    let ids : missing_id_count lacks_id (resolved_fields_from n fields) ≡ 0 = omega (arith, none, kept) in
    let say : list_all says (in_module (resolved_fields_from n fields)) ≡ true =
    still_says (module_scope xs) xs (expanded_says (n + reference_id_count fields) (desugared_from n fields)) in
    explicit_is (resolved_fields_from n fields) (finished_indexed n fields) ids say (finished_written_out n fields)

-- So it has as many items as the fields.
crowded_before : SameCounts → SameBodyCounts → ItemsStay → (n : ℕ) (fields : List ModuleField) → greatest_generation fields < n → IsMet fields
    → IsCrowded (explicit_fields (resolved_fields_from n fields)) → IsCrowded (explicit_fields fields)
crowded_before counts bodies stay n fields above met h = by (subst IsCrowded (explicit_rests n fields) h)
  where
    met_names : first_unmet (item_demands (items (explicit_fields fields))) ≡ None
    met_names =
        let xs = explicit_fields fields in
        (met_parts (item_demands (items xs)) (site_demands (module_scope xs) (in_module xs)) (met_parts (order_demands xs) (name_demands xs) met).1).0

    by : IsCrowded (resolved_fields_from n fields) → IsCrowded (explicit_fields fields)
    by (inl many) = inl (subst HasMany (ap item_counts (stay n fields) ∙ counts n fields above) many)
    by (inr inside) = inr (met_names, subst HasMany (resolved_bodies (explicit_fields_from n fields) ∙ bodies n fields above met_names) inside.1)

pub rests_bounded : SameCounts → SameBodyCounts → ItemsStay → RestsByPosition → FillsNoMore
    → ((n : ℕ) (name : Option (List ℕ)) (fields : List ModuleField) → greatest_generation fields < n → IsMet fields
    → IsWritable name (resolved_fields (by_positions fields)) → IsWritable name (resolved_fields_from n fields))
    → RestsBounded
rests_bounded counts bodies stay by_position fills written m n name fields above met below bounded =
    let list = resolved_fields_from n fields in
    let bare = append-nil list in
    let none : generated_id_count (resolved_fields_from n fields) ≡ 0 = ap generated_id_count (sym bare) ∙ fills n fields [] in
    let still : resolved_fields (by_positions list) ≡ list = subst (λ xs. resolved_fields (by_positions xs) ≡ xs) bare (by_position n fields []) in
    record {
      spaces = λ h. bounded.spaces (crowded_before counts bodies stay n fields above met h);
      counter = omega (arith, none, below);
      writable = subst (IsWritable name) (sym still) (written n name fields above met bounded.writable);
    }
