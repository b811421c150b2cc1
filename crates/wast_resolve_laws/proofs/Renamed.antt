-- Proves the theorems about modules with other names.
use Rattle.std.proofs.Common.{◌≡◌, ℕ, ◌+◌, length, List, [], ◌∷◌, ◌++◌, map, Some, option_map, refl, sym, ap, ◌∙◌, subst}
use mathlib.Core.Path.{fun_ext}
use Rattle.std.specs.List.{flat_map}
use Rattle.std.proofs.lemmas.List.{length-map, map-append}
use Rattle.wast_tree_nodes.specs.Items.{Item, items}
use Rattle.wast_tree_nodes.specs.Sites.{Site, Begins, param_marks, in_field}
use Rattle.wast_tree_map.specs.Laws.{all_mapped}
use Rattle.wast_tree_map.specs.Mapped.{mapped_func_kind, mapped_field}
use Rattle.wast_tree_map.specs.Named.{renamed_mark, renamed_item, named_site}
use Rattle.wast_tree_map.proofs.Fields.{field_at, marks_named}
use Rattle.wast_expand_inline.specs.Written.{desugared_from, desugared_by_position}
use Rattle.wast_expand_inline.proofs.Left.{nothing_is_left}
use Rattle.wast_expand_inline.proofs.Staying.{stays_by_position}
use Rattle.wast_expand_keys.specs.Completed.{fields_with_implied_types}
use Rattle.wast_expand_keys.specs.Positioned.{fields_with_type_positions}
use Rattle.wast_resolve_laws.specs.Tree.{Space, FunctionType, TypeUse, FuncKind, ModuleField}
use Rattle.wast_resolve_laws.specs.Tree.func
use Rattle.wast_resolve_laws.specs.Tree.field
use Rattle.wast_resolve_rules.specs.Scopes.{Scope, module_scope, implicit_param_count}
use Rattle.wast_resolve_rules.specs.Demands.{first_unmet, demands, space_counts, field_counts, item_counts, kind_marks, declared_ids}
use Rattle.wast_resolve_rules.specs.Demands.{local_counts_in, open_counts_at, open_counts, body_counts_in, body_counts}
use Rattle.wast_resolve_rules.specs.Explicit.{explicit_fields, by_positions}
use Rattle.wast_resolve_rules.specs.Resolved.{resolved_fields}
use Rattle.wast_resolve_rules.specs.Stripped.{stripping}
use Rattle.wast_base.specs.Spaces.{spaces}
use Rattle.wast_resolve_laws.specs.Renaming.{Renaming, IsRenaming, renaming, renamed_use, renamed_fields, told_marks, RenamesFault}
use Rattle.wast_resolve_laws.specs.Renaming.{RenamedAnswer, RenamedPositions, RenamedCounts, WrittenAnswer, WrittenPositions}
use Rattle.wast_resolve_laws.proofs.OtherNames.{count_same, names}
use Rattle.wast_resolve_laws.proofs.RenamedDemands.{same_demands}
use Rattle.wast_resolve_laws.proofs.RenamedNumbers.{same_resolved}
use Rattle.wast_resolve_laws.proofs.RenamedShapes.{shapes_alike, items_are, numbers_are, nameless_same}
use Rattle.wast_resolve_laws.proofs.RenamedTypes.{same_completed, same_positioned}
use Rattle.wast_resolve_laws.proofs.RenamedWrittenOut.{same_written}
use Rattle.wast_resolve_laws.proofs.WrittenAlike.{written_unmet}
use Rattle.wast_resolve_laws.proofs.WrittenPositions.{written_positions}

module _ (r : Renaming) (is : IsRenaming r) where
  pub same_explicit : (fields : List ModuleField) → explicit_fields (renamed_fields r fields) ≡ renamed_fields r (explicit_fields fields)
  same_explicit fields = ap fields_with_implied_types (same_written r is fields) ∙ same_completed r is (desugared_by_position fields)

  same_positions : (fields : List ModuleField) → by_positions (renamed_fields r fields) ≡ renamed_fields r (by_positions fields)
  same_positions fields = ap fields_with_type_positions (same_written r is fields) ∙ same_positioned r is (desugared_by_position fields)

  -- Items, and the fields of structs.
  spaces_count : (xs : List Item) → space_counts (map (renamed_item r.name) xs) ≡ space_counts xs
  spaces_count xs = ap (λ (f : Space → ℕ). map f spaces) (fun_ext (λ (s : Space). count_same r.name is.injective s xs))

  fields_count : (xs : List Item) → field_counts (map (renamed_item r.name) xs) ≡ field_counts xs
  fields_count [] = refl
  fields_count (x ∷ xs) = λ i. length-map x.fields (renamed_mark r.name) i ∷ fields_count xs i

  pub items_count : (xs : List ModuleField) → item_counts (items (renamed_fields r xs)) ≡ item_counts (items xs)
  items_count xs = ap item_counts (items_are r is xs) ∙ (λ i. spaces_count (items xs) i ++ fields_count (items xs) i)

  -- Bodies.
  kind_marked : (u : TypeUse FunctionType) (k : FuncKind) → kind_marks (mapped_func_kind (renaming r) u k) ≡ map (renamed_mark r.name) (kind_marks k)
  kind_marked u (func.Import source exact) = refl
  kind_marked u (func.Inline locals e) = marks_named r.name (renaming r) (names r is) locals

  declared_count : (u : TypeUse FunctionType) (k : FuncKind)
      → length (declared_ids (renamed_use r u).inline (mapped_func_kind (renaming r) u k)) ≡ length (declared_ids u.inline k)
  declared_count u k =
      ap length ((λ i. (names r is).params u i ++ kind_marked u k i) ∙ sym (map-append (renamed_mark r.name) (param_marks u.inline) (kind_marks k)))
      ∙ length-map (declared_ids u.inline k) (renamed_mark r.name)

  open_at : (s : Site) → open_counts_at (named_site r.name (renaming r) s) ≡ open_counts_at s
  open_at (Begins blocks m) = ap (λ k. (k + 1) ∷ []) (length-map blocks (option_map r.name))
  open_at s = refl

  opens_count : (ss : List Site) → open_counts (map (named_site r.name (renaming r)) ss) ≡ open_counts ss
  opens_count [] = refl
  opens_count (s ∷ ss) = λ i. open_at s i ++ opens_count ss i

  open_in : (x : ModuleField) → open_counts (in_field (mapped_field (renaming r) x)) ≡ open_counts (in_field x)
  open_in x = ap open_counts ((field_at x).stands r.name (renaming r) (names r is)) ∙ opens_count (in_field x)

  module _ (c d : Scope) (unsaid : (u : TypeUse FunctionType) → implicit_param_count d (Some (renamed_use r u)) ≡ implicit_param_count c (Some u)) where
    locals_count : (x : ModuleField) → local_counts_in d (mapped_field (renaming r) x) ≡ local_counts_in c x
    locals_count (field.Func f) = λ i. (unsaid f.ty i + declared_count f.ty f.kind i) ∷ []
    locals_count x = refl

    body_count : (x : ModuleField) → body_counts_in d (mapped_field (renaming r) x) ≡ body_counts_in c x
    body_count x = λ i. locals_count x i ++ open_in x i

    all_count : (xs : List ModuleField) → flat_map (body_counts_in d) (renamed_fields r xs) ≡ flat_map (body_counts_in c) xs
    all_count [] = refl
    all_count (x ∷ xs) = λ i. body_count x i ++ all_count xs i

  pub bodies_count : (xs : List ModuleField) → body_counts (renamed_fields r xs) ≡ body_counts xs
  bodies_count xs =
      all_count (module_scope xs) (module_scope (renamed_fields r xs))
      (λ u. nameless_same r is (module_scope xs) (module_scope (renamed_fields r xs)) (numbers_are r is xs) (shapes_alike r is xs) (Some u)) xs

pub renamed_answer : RenamedAnswer
renamed_answer r is fields =
    let told = RenamesFault r.name (told_marks (explicit_fields fields)) (first_unmet (demands (explicit_fields fields))) in
    subst (λ (xs : List ModuleField). told (first_unmet (demands xs))) (sym (same_explicit r is fields)) (same_demands r is (explicit_fields fields))

pub renamed_positions : RenamedPositions
renamed_positions r is fields = ap resolved_fields (same_positions r is fields) ∙ same_resolved r is (by_positions fields)

pub renamed_counts : RenamedCounts
renamed_counts r is fields = (
  ap (λ xs. item_counts (items xs)) (same_explicit r is fields) ∙ items_count r is (explicit_fields fields),
  ap body_counts (same_explicit r is fields) ∙ bodies_count r is (explicit_fields fields),
)

-- The expansion has no inline part, so expanding it again changes nothing.
pub written_answer : WrittenAnswer
written_answer n fields above =
    let all = desugared_from n fields in
    ap (λ xs. first_unmet (demands (fields_with_implied_types xs))) (stays_by_position all (nothing_is_left n fields)) ∙ written_unmet n fields above

pub written_by_positions : WrittenPositions
written_by_positions n fields above met =
    let all = desugared_from n fields in
    ap (λ xs. all_mapped stripping (resolved_fields (fields_with_type_positions xs))) (stays_by_position all (nothing_is_left n fields))
    ∙ written_positions n fields above (written_unmet n fields above ∙ met)
